-- `Lines::refute_if` meets its contract. Assumes nothing.
use native.Mathlib.Omega.{arith}
use mathlib.Core.Path.{sym, ◌∙◌}
use Rattle.logic.proofs.Tests.{of_true}
use Rattle.engine.proofs.run.Trying.{few}
use Rattle.engine.proofs.run.Rounds.{refuted_unfound, refuted_before, refuted_line}
use Rattle.engine.proofs.lines.Lines.refute_if.Goals as goal

pub returns-then-not-found-clause-refuted : goal.returns-then-not-found-clause-refuted
returns-then-not-found-clause-refuted c = let l = c.args.self.now in refuted_unfound l.table l.logged c.if-not-found.true

pub is_written-requires : goal.is_written-requires
is_written-requires c = let l = c.args.self.now in (omega (arith, (few l.table).atoms), c.requires.1, l.logged.ready.invariant.room)

pub returns-then-is_written-clause-refuted : goal.returns-then-is_written-clause-refuted
returns-then-is_written-clause-refuted c =
    let l = c.args.self.now in refuted_before l.table l.logged (sym c.is_written.ensures ∙ c.if-is_written.true)

pub overflow_mul-q : goal.overflow_mul-q
overflow_mul-q c = record { fits = omega (arith, (few c.args.self.now.table).atoms) }

pub overflow_add-q : goal.overflow_add-q
overflow_add-q c = record { fits = omega (arith, (few c.args.self.now.table).atoms) }

pub write_line-requires : goal.write_line-requires
write_line-requires c =
    let l = c.args.self.now in
    (l.logged, omega arith, sym c.is_written.ensures ∙ c.if-is_written.false, c.requires.2 (of_true c.args.found c.if-not-found.false))

pub returns-clause-refuted : goal.returns-clause-refuted
returns-clause-refuted c =
    let l = c.args.self.now in
    refuted_line l.table l.logged (omega arith) (sym c.is_written.ensures ∙ c.if-is_written.false) c.if-not-found.false c.requires.2 c.write_line.ensures
