-- The rule combine: of two linear facts with one lead atom, with coefficients of opposite signs, such multiples are added that it goes away.
use Rattle.std.specs.Prelude.{ℕ, ◌/◌, ℤ, pos, neg_ℤ, int_lt, int_le, unsigned_abs, Bool, true, false, ◌&&◌, ◌||◌, Option, Some, None, is_none, option_map, List, [], ◌∷◌, ◌++◌, map, flat_map, if◌then◌else◌}
use Rattle.std.specs.List.{list_any}
use Rattle.logic_core.specs.Tree.{Tree, at_most, Parts, no_parts, part}
use Rattle.logic_core.specs.Def.{Def}
use Rattle.logic_core.specs.Wide.{checked, ◌>>=◌}
use Rattle.logic_core.specs.Same.{same_term, same_parts, is_some_and}
use Rattle.logic_core.specs.Sum.{Linear}
use Rattle.logic_core.specs.Junction.{is_truth}
use Rattle.logic_core.specs.Tighten.{tighten, gcd}
use Rattle.logic_core.specs.Combine.{linear_of, combined, lead, at_least_zero}
use Rattle.proof_core.specs.Proof.{by_combine}
use Rattle.tableau_branch.specs.Branch.{Fact, Branch, Attempt, none, leaves, gives, first_attempt}
use Rattle.tableau_branch.specs.Change.{begun, appended_one, added}
use Rattle.tableau_branch.specs.Oriented.{left_side}
use Rattle.tableau_branch.specs.Move.{Move, on_one}

abbrev pub opposite_parts : Parts → Parts
opposite_parts no_parts = no_parts
opposite_parts (part k t ps) = part (neg_ℤ k) t (opposite_parts ps)

abbrev pub opposite : Linear → Linear
opposite s = record { parts = opposite_parts s.parts; rest = neg_ℤ s.rest }

-- a linear fact of this number: Le(0, form), or Eq(form, 0) counted as Le(0, form) or, where it is turned, as Le(0, -form)
pub record Entry : Type 0 where
  pub number : ℕ
  pub form : Linear
  pub turned : Bool

abbrev pub counted : Entry → Linear
counted e = if e.turned then opposite e.form else e.form

abbrev pub is_at_most : Tree → Bool
is_at_most (at_most z d) = true
is_at_most t = false

abbrev pub is_positive : ℤ → Bool
is_positive k = int_lt (pos 0) k

abbrev pub is_negative : ℤ → Bool
is_negative k = int_lt k (pos 0)

-- one lead atom, with coefficients of opposite signs
abbrev pub are_opposite : Option (ℤ × Tree) → Option (ℤ × Tree) → Bool
are_opposite (Some p) (Some q) = same_term p.1 q.1 && ((is_negative p.0 && is_positive q.0) || (is_positive p.0 && is_negative q.0))
are_opposite p q = false

abbrev pub size_of : Option (ℤ × Tree) → ℕ
size_of None = 0
size_of (Some p) = unsigned_abs p.0

-- the absolute value of the lead's coefficient
abbrev pub lead_size : Entry → ℕ
lead_size e = size_of (lead e.form)

-- the number as the multiplier of an entry's form: negative where it is turned
abbrev pub multiplier : Entry → ℕ → Option ℤ
multiplier e n = option_map (λ k. if e.turned then neg_ℤ k else k) (checked (pos n))

-- two entries, the multipliers of their forms, and the sum
pub record Combined : Type 0 where
  pub first : Entry
  pub second : Entry
  pub p : ℤ
  pub q : ℤ
  pub fact : Tree

-- a and b are the absolute values of the coefficients, g is their greatest common divisor: b/g times the first and a/g times the second
abbrev pub combined_pair : Entry → Entry → Option Combined
combined_pair d e = let a = lead_size d in let b = lead_size e in let g = gcd a b in
    multiplier d (b / g) >>= λ p. multiplier e (a / g) >>= λ q. combined d.form p e.form q >>= λ s.
    Some (record { first = d; second = e; p = p; q = q; fact = at_least_zero s })

-- a fact has the same parts, and a constant no greater
abbrev pub is_known : List Entry → Tree → Bool
is_known es t = is_some_and (linear_of t) (λ s. list_any (λ e. same_parts (counted e).parts s.parts && int_le (counted e).rest s.rest) es)

-- a pair is passed over where the tightened sum is true or known
abbrev pub combine_pair : List Entry → Entry × Entry → Attempt Combined
combine_pair es p = elim (are_opposite (lead (counted p.0)) (lead (counted p.1))) [
  | false ↦ none
  | true ↦ elim (combined_pair p.0 p.1) [
    | None ↦ leaves
    | Some c ↦ elim (is_truth true c.fact || is_known es (tighten c.fact)) [ true ↦ none | false ↦ gives c ]
  ]
]

-- pairs of an earlier and a later entry: the oldest later one first, then the oldest earlier one
abbrev pub pairs_from : List Entry → List Entry → List (Entry × Entry)
pairs_from before [] = []
pairs_from before (e ∷ es) = map (λ d. (d, e)) before ++ pairs_from (before ++ e ∷ []) es

module _ (defs : List Def) where
  -- Le(0, d), and an Eq(d, 0) that isn't oriented, counted as Le(0, d) and then as Le(0, -d)
  abbrev pub entries_of : Branch → Fact → List Entry
  entries_of b f = elim (linear_of f.term) [
    | None ↦ []
    | Some s ↦ (if is_at_most f.term then record { number = f.number; form = s; turned = false } ∷ []
        else (if is_none (left_side b.vars defs f.term) then record { number = f.number; form = s; turned = false } ∷ record { number = f.number; form = s; turned = true } ∷ [] else []))
  ]

  abbrev pub entries : Branch → List Entry
  entries b = flat_map (entries_of b) b.facts

  -- the sum is added, tightened
  abbrev pub combined_by : Branch → Combined → Move
  combined_by b c = let p = appended_one (by_combine (c.first).number c.p (c.second).number c.q ∷ []) c.fact (begun b) in on_one (added p.0 p.1)

  abbrev pub combine : Branch → Attempt Move
  combine b = let es = entries b in elim (first_attempt (combine_pair es) (pairs_from [] es)) [ none ↦ none | leaves ↦ leaves | gives c ↦ gives (combined_by b c) ]
