-- The theory of a file is the theory of what it says, and its sizes are those of what it says. Assumes nothing.
use Prim.Native.Nat.{ℕ, zero, suc, ◌%◌, ◌/◌, ◌≤◌, ◌<◌}
use native.Mathlib.Nat.{not-suc-le-zero}
use native.Mathlib.Omega.{arith}
use mathlib.Core.Path.{◌≡◌, sym, ◌∙◌, ap, ap₂}
use mathlib.Core.Logic.{⊎_elim}
use mathlib.Core.List.{List, [], ◌∷◌, map, map-append}
use lib.Dec.{eqb}
use lib.ListN.{length, get_or, length-map, get_or-append, get_or-eq_default}
use lib.Seq.{get_or_at}
use Rattle.logic.specs.Tests.{upto, pick}
use Rattle.logic.proofs.Tests.{at_most, lt_suc_cases}
use Rattle.logic.proofs.Lists.{length_upto}
use Rattle.table.specs.declared.format.Sizes.{Sizes}
use Rattle.std.specs.Prelude.{Ok}
use Rattle.table.specs.declared.edition.Edition.{Edition}
use Rattle.table.specs.Editions.{layout_of}
use Rattle.table.specs.Format.{sizes_of, facts_from, rules_from, entries_from, pairs_from, kind_of, kind_meant, origin_of, fact_at, rule_at, entry_at, pair_at, body_in, theory_in, theory_of}
use Rattle.table.specs.Refusals.{judgement_of}
use Rattle.table.proofs.Legal.{legal, left_past, right_past}
use Rattle.files.specs.Contents.{content_in, content_of, fact_of, rule_of, entry_of, pair_of, sizes_for, theory_from}

-- the values at the numbers below n: how many, the i-th, what is past their end
pub count_upto_map : {A : Type 0} (f : ℕ → A) (n : ℕ) → length (map f (upto n)) ≡ n
count_upto_map f n = length-map (upto n) f ∙ length_upto n

pub at_upto : {A : Type 0} (f : ℕ → A) (n i : ℕ) (d : A) → i < n → get_or (map f (upto n)) i d ≡ f i
unfolding upto
at_upto f zero i d h = absurd (not-suc-le-zero h)
at_upto f (suc n) i d h =
    ap (λ l. get_or l i d) (map-append f (upto n) (n ∷ []))
    ∙ ⊎_elim (λ k. get_or-append (map f (upto n)) (f n ∷ []) d i (omega (arith, count_upto_map f n)) ∙ at_upto f n i d k)
    (λ e. get_or_at (map f (upto n)) (f n) [] d i (omega (arith, count_upto_map f n)) ∙ ap f (sym e)) (lt_suc_cases i n h)

pub past_upto : {A : Type 0} (f : ℕ → A) (n i : ℕ) (d : A) → n ≤ i → get_or (map f (upto n)) i d ≡ d
past_upto f n i d h = get_or-eq_default (map f (upto n)) d (omega (arith, count_upto_map f n))

-- a reader that gives d past the end gives what is listed, everywhere
listed : {A : Type 0} (f : ℕ → A) (n : ℕ) (d : A) → ((i : ℕ) → n ≤ i → f i ≡ d) → (i : ℕ) → f i ≡ get_or (map f (upto n)) i d
listed f n d p i = ⊎_elim (λ h. p i h ∙ sym (past_upto f n i d h)) (λ h. sym (at_upto f n i d h)) (at_most n i)

module _ (b : List ℕ) (s : Sizes) where
  pub sizes_say : sizes_for (content_in b s) ≡ s
  sizes_say = λ k. record {
    atoms = s.atoms;
    facts = count_upto_map (λ i. (fact_at b s i).0) s.facts k;
    rules = count_upto_map (rule_at b s) s.rules k;
    entries = count_upto_map (entry_at b s) s.entries k;
    pairs = count_upto_map (pair_at b s) s.pairs k;
  }

  -- what each reader gives is what the content lists
  pub fact_says : (i : ℕ) → (fact_at b s i).0 ≡ fact_of (content_in b s) i
  fact_says = listed (λ i. (fact_at b s i).0) s.facts _ (right_past b s (facts_from s) s.facts)

  pub rule_says : (r : ℕ) → rule_at b s r ≡ rule_of (content_in b s) r
  unfolding kind_of origin_of
  rule_says = listed (rule_at b s) s.rules _ (λ r h k. record {
    kind = kind_of (left_past b (rules_from s) s.rules r h k % 4);
    origin = origin_of (left_past b (rules_from s) s.rules r h k / 4);
    head = record { 0 = right_past b s (rules_from s) s.rules r h k };
  })

  pub entry_says : (i : ℕ) → entry_at b s i ≡ entry_of (content_in b s) i
  entry_says = listed (entry_at b s) s.entries _ (λ i h k. record {
    rule = left_past b (entries_from s) s.entries i h k;
    literal = record { 0 = right_past b s (entries_from s) s.entries i h k };
  })

  pub pair_says : (i : ℕ) → pair_at b s i ≡ pair_of (content_in b s) i
  pair_says = listed (pair_at b s) s.pairs _ (λ i h k. record {
    stronger = left_past b (pairs_from s) s.pairs i h k;
    weaker = right_past b s (pairs_from s) s.pairs i h k;
  })

  -- so the theory is that of the content
  pub theory_says : theory_in b s ≡ theory_from (content_in b s)
  unfolding theory_in body_in theory_from
  theory_says = λ k. record {
    atoms = s.atoms;
    facts = (sym sizes_say k).facts;
    fact = λ i. fact_says i k;
    rules = (sym sizes_say k).rules;
    rule = λ r. record {
      kind = kind_meant (rule_says r k).kind;
      head = (rule_says r k).head.0;
      body = map (λ i. (entry_says i k).literal.0) (pick (upto (sym sizes_say k).entries) (λ i. eqb (entry_says i k).rule r));
    };
    pairs = (sym sizes_say k).pairs;
    pair = λ i. record { stronger = (pair_says i k).stronger; weaker = (pair_says i k).weaker };
  }

-- what a file says is what its content says
pub file_theory : (e : Edition) (b : List ℕ) → theory_of e b ≡ theory_from (content_of e b)
file_theory e b = theory_says (layout_of e b) (sizes_of (layout_of e b))

-- what a table says, by the sizes that it was judged by
pub said : (e : Edition) (b l : List ℕ) (s : Sizes) → judgement_of e b ≡ Ok s → l ≡ layout_of e b → content_in l s ≡ content_of e b
said e b l s a f = ap₂ content_in f (sym (legal e b s a).read)
