-- `convert::convert::copy_bytes` meets its contract. The loop's invariant: the bytes passed are copied. Assumes nothing.
use Rattle.std.proofs.Common.{◌≡◌, ◌++◌, take, drop}
use Rattle.convert.proofs.convert.copy_bytes.Given as goal

abbrev pub invariant-loop-i : goal.invariant-loop-i
invariant-loop-i l = l.out ≡ take l.i l.bytes ++ drop l.i l.initial.out
