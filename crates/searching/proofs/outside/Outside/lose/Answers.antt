-- `Outside::lose` meets its contract. Assumes nothing.
use Prim.Native.Nat.{ℕ, ◌≤◌, ◌<◌}
use native.Mathlib.Omega.{arith}
use mathlib.Core.Path.{◌≡◌, sym, subst}
use mathlib.Core.List.{List}
use lib.ListN.{get_or}
use Rattle.table.specs.declared.format.Sizes.{Sizes}
use Rattle.table.specs.Format.{theory_in}
use Rattle.table.specs.Refusals.{Legal}
use Rattle.logic.specs.Theory.{head_of}
use Rattle.searching.proofs.Losing.{loss_read}
use Rattle.searching.proofs.Ends.{orderly}
use Rattle.searching.proofs.outside.Outside.lose.Goals as goal

-- there is room for the head that was read
room_for : (b : List ℕ) (s : Sizes) → Legal b s → (gone : List ℕ) {end q r : ℕ} → r < s.rules → q ≡ head_of (theory_in b s) r
    → (end ≤ 1024) × (get_or gone (head_of (theory_in b s) r) 0 ≡ 0 → end < 1024) → (q < 1024) × (end ≤ 1024) × (get_or gone q 0 ≡ 0 → end < 1024)
unfolding theory_in
room_for b s l gone {end} {q} {r} h e p =
    let o = orderly b s l in
    subst (λ x. (x < 1024) × (end ≤ 1024) × (get_or gone x 0 ≡ 0 → end < 1024)) (sym e) (omega (arith, o.heads r h, o.few), p.0, p.1)

pub bounds-self-r : goal.bounds-self-r
unfolding theory_in
bounds-self-r c = let t = c.args.search.table in omega (arith, c.requires.rule, (orderly _ _ t.legal).small)

pub bounds-self-r-2 : goal.bounds-self-r-2
unfolding theory_in
bounds-self-r-2 c = let t = c.args.search.table in omega (arith, c.requires.rule, (orderly _ _ t.legal).small)

pub head_of-q-requires : goal.head_of-q-requires
unfolding theory_in
head_of-q-requires c = let t = c.args.search.table in (c.args.search.ready, c.requires.rule, (orderly _ _ t.legal).small)

pub leave_if-requires : goal.leave_if-requires
leave_if-requires c =
    let t = c.args.search.table in room_for _ _ t.legal _ c.requires.rule c.head_of-q.ensures (c.requires.room.1, c.requires.room.2)

pub returns-clause-leaves : goal.returns-clause-leaves
returns-clause-leaves c = loss_read _ _ _ _ c.head_of-q.ensures c.is_founding-founding.ensures c.leave_if.ensures.leaves
