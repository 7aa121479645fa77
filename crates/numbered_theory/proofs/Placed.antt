-- A linear fact that has the sum that is looked for.
use Rattle.std.proofs.Common.{◌≡◌, refl, sym, ap, ◌∙◌, ℕ, ℤ, nat_eq, int_le, Bool, true, false, true≢false, not, ◌||◌, Option, Some, List, [], ◌∷◌, arith}
use Rattle.std.specs.List.{list_any}
use Rattle.std.proofs.lemmas.Bool.{eqb-true}
use Rattle.std.proofs.lemmas.Int.{ints}
use Rattle.logic_core.specs.Tree.{Tree}
use Rattle.logic_core.specs.Same.{is_some_and}
use Rattle.logic_core.specs.Sum.{Linear}
use Rattle.logic_core.specs.Combine.{linear_of, sum_of}
use Rattle.logic_core.proofs.Booleans.{both_true, all_true, or_first, or_second}
use Rattle.logic_core.proofs.SameTerm.{self_parts}
use Rattle.term_bank.specs.Numbered.{at}
use Rattle.theory_rules.specs.Combining.{is_known}
use Rattle.theory_rules.specs.Counting.{has_no_greater}
use Rattle.numbered_theory.specs.Entries.{entry_at, entries_at, has_sum}
use Rattle.numbered_theory.specs.declared.entries.Entry.{Entry}

-- a form and itself
no_greater_itself : (n : ℕ) (s : Linear) → has_no_greater s (record { number = n; form = s; turned = false }) ≡ true
no_greater_itself n s = all_true _ _ (self_parts s.parts) (int_le_itself s.rest)
  where
    int_le_itself : (k : ℤ) → int_le k k ≡ true
    int_le_itself k = grind (arith, ints)

module _ (ts : List Tree) (sum : ℕ) where
  flat : (b : Bool) → not b ≡ true → b ≡ false
  flat false h = refl
  flat true h = absurd (true≢false (sym h))

  here_known : (e : Entry) → has_sum sum e ≡ true → has_no_greater (sum_of (at ts sum)) (entry_at ts e) ≡ true
  here_known e h =
      let two = both_true (not e.turned) (nat_eq e.sum sum) h in
      let is : entry_at ts e ≡ record { number = e.number; form = sum_of (at ts sum); turned = false } = λ k. record { number = e.number; form = sum_of (at ts (eqb-true e.sum sum two.1 k)); turned = flat e.turned two.0 k } in
      ap (has_no_greater (sum_of (at ts sum))) is ∙ no_greater_itself e.number (sum_of (at ts sum))

  any_known : (es : List Entry) → list_any (has_sum sum) es ≡ true → list_any (has_no_greater (sum_of (at ts sum))) (entries_at ts es) ≡ true
  any_known [] h = absurd (true≢false (sym h))
  any_known (e ∷ es) h = by (has_sum sum e) refl h (any_known es)
    where
      by : (b : Bool) → has_sum sum e ≡ b → (b || list_any (has_sum sum) es) ≡ true → (list_any (has_sum sum) es ≡ true → list_any (has_no_greater (sum_of (at ts sum))) (entries_at ts es) ≡ true)
          → (has_no_greater (sum_of (at ts sum)) (entry_at ts e) || list_any (has_no_greater (sum_of (at ts sum))) (entries_at ts es)) ≡ true
      by true k g r = or_first _ _ (here_known e k)
      by false k g r = or_second _ _ (r g)

  pub placed_known : (es : List Entry) (t : Tree) → Some (sum_of (at ts sum)) ≡ linear_of t → list_any (has_sum sum) es ≡ true → is_known (entries_at ts es) t ≡ true
  placed_known es t is h = ap (λ (o : Option Linear). is_some_and o (λ (s : Linear). list_any (has_no_greater s) (entries_at ts es))) (sym is) ∙ any_known es h
