-- A name without an entry is no logical function.
use Rattle.std.proofs.Common.{◌≡◌, refl, sym, ap, ◌∙◌, ℕ, zero, suc, Bool, true, false, cond, length}
use Rattle.std.specs.List.{list_any}
use Rattle.bv_base.specs.Text.{is_among}
use Rattle.bpl_scopes.specs.Positions.{first_at, beside}
use Rattle.bpl_scopes.specs.Scopes.{Text, Table}
use Rattle.bpl_scopes.specs.Functions.{has_quantifier, function_in, next_names, is_logical_within, is_logical}
use Rattle.bpl_scopes.specs.LogicalView.{logical_at}
use Rattle.bpl_scopes.specs.KnownSorts.{names_in}
use Rattle.bpl_scopes.proofs.FirstAt.{at_name-map}
use Rattle.bpl_scopes.proofs.SynonymRounds.{entity_absent}

absent_within : (t : Table) (k : ℕ) (n : Text) → is_among (names_in t) n ≡ false → is_logical_within t k n ≡ false
absent_within t zero n h = refl
absent_within t (suc k) n h = ap (λ e. elim (has_quantifier (function_in e)) [ true ↦ true | false ↦ list_any (is_logical_within t k) (next_names t e) ]) (entity_absent t n h)

pub logical_known : (t : Table) (n : Text) → is_logical t n ≡ beside false (logical_at t) (first_at n (names_in t))
unfolding is_logical
logical_known t n = sym (at_name-map false (is_logical t) t n ∙ by (is_among (names_in t) n) refl)
  where
    by : (b : Bool) → is_among (names_in t) n ≡ b → cond b (is_logical t n) false ≡ is_logical t n
    by true e = refl
    by false e = sym (absent_within t (length t) n e)
