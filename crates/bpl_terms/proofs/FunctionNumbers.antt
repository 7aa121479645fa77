-- How many names stand before one.
use Rattle.std.proofs.Common.{◌≡◌, refl, ap, ◌∙◌, ℕ, suc, ◌+◌, Bool, true, false, cond, List, [], ◌∷◌, length, Option, Some, None, option_map, bytes_eq, arith}
use Rattle.std.proofs.lemmas.Cmp.{nat_list_eq_equiv}
use Rattle.bpl_scopes.specs.Positions.{first_at, or_other}
use Rattle.bpl_scopes.specs.Scopes.{Text}
use Rattle.bpl_scopes.specs.Functions.{position_of}

-- the position at which the name stands first, or how many names there are
pub position_first : (ns : List Text) (n : Text) → position_of ns n ≡ or_other (first_at n ns) (length ns)
position_first [] n = refl
position_first (m ∷ ms) n = ap (λ b. elim b [ true ↦ 0 | false ↦ position_of ms n + 1 ]) (nat_list_eq_equiv.symm m n) ∙ by (bytes_eq n m) (position_first ms n)
  where
    next : (o : Option ℕ) → or_other o (length ms) + 1 ≡ or_other (option_map suc o) (length (m ∷ ms))
    next None = omega arith
    next (Some i) = omega arith

    by : (b : Bool) → position_of ms n ≡ or_other (first_at n ms) (length ms) → elim b [ true ↦ 0 | false ↦ position_of ms n + 1 ] ≡ or_other (cond b (Some 0) (option_map suc (first_at n ms))) (length (m ∷ ms))
    by true h = refl
    by false h = ap (λ k. k + 1) h ∙ next (first_at n ms)
