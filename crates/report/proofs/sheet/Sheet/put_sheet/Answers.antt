-- `report::sheet::Sheet::put_sheet` meets its contract.
use Prim.Native.Nat.{ℕ}
use lib.ListN.{length-replicate}
use Rattle.report.proofs.Puts.{put_same}
use Rattle.report.proofs.Running.{refused_text, run_text, run_kept}
use Rattle.report.proofs.sheet.Sheet.put_sheet.Goals as goal

pub invariant_of-put_run : goal.invariant_of-put_run
invariant_of-put_run c =
    record {
      legal =
          (run_kept c.run.result (length-replicate {A = ℕ} 2048 0) (length-replicate {A = ℕ} 32768 0) _ c.run.ensures _ c.layout-layout.ensures _ c.sizes_of-sizes.ensures c.bound_of-most.ensures _ c.in-Stopped.is).0;
    }

pub put_run-requires : goal.put_run-requires
put_run-requires c =
    ((run_kept c.run.result (length-replicate {A = ℕ} 2048 0) (length-replicate {A = ℕ} 32768 0) _ c.run.ensures _ c.layout-layout.ensures _ c.sizes_of-sizes.ensures c.bound_of-most.ensures _ c.in-Stopped.is).1, c.requires)

pub returns-in-Refused : goal.returns-in-Refused
returns-in-Refused c =
    put_same
    (refused_text c.run.result (length-replicate {A = ℕ} 2048 0) (length-replicate {A = ℕ} 32768 0) c.args.table.now c.run.ensures _ c.layout-layout.ensures _ c.sizes_of-sizes.ensures c.bound_of-most.ensures _ c.in-Refused.is)
    c.put_refused.ensures

pub returns-in-Stopped : goal.returns-in-Stopped
returns-in-Stopped c =
    put_same
    (run_text c.run.result (length-replicate {A = ℕ} 2048 0) (length-replicate {A = ℕ} 32768 0) c.args.table.now c.run.ensures _ c.layout-layout.ensures _ c.sizes_of-sizes.ensures c.bound_of-most.ensures _ c.in-Stopped.is)
    c.put_run.ensures
