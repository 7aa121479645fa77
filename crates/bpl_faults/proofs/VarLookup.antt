-- The first variable of a name stands at the name's first position.
use Rattle.std.proofs.Common.{◌≡◌, refl, sym, ap, ◌∙◌, ℕ, suc, Bool, true, false, cond, List, [], ◌∷◌, map, find, slice_get, Option, Some, None, option_map, bytes_eq}
use Rattle.std.proofs.lemmas.Cmp.{nat_list_eq_equiv}
use Rattle.bpl_scopes.specs.Positions.{first_at}
use Rattle.bpl_scopes.specs.Scopes.{Text, Var as variable, var_of}
use Rattle.bpl_faults.specs.declared.vars.Var.{Var}
use Rattle.bpl_faults.specs.VarsView.{var_seen, vars_seen, looked_var}

pub var_looked : (vs : List Var) (n : Text) → var_of (vars_seen vs) n ≡ looked_var vs (first_at n (map (λ (v : variable). v.name) (vars_seen vs)))
var_looked [] n = refl
var_looked (v ∷ vs) n = ap (λ b. cond b (Some (var_seen v)) (var_of (vars_seen vs) n)) (nat_list_eq_equiv.symm v.name.now n) ∙ by (bytes_eq n v.name.now) (var_looked vs n)
  where
    next : (o : Option ℕ) → looked_var vs o ≡ looked_var (v ∷ vs) (option_map suc o)
    next None = refl
    next (Some i) = refl

    by : (b : Bool) → var_of (vars_seen vs) n ≡ looked_var vs (first_at n (map (λ (w : variable). w.name) (vars_seen vs)))
        → cond b (Some (var_seen v)) (var_of (vars_seen vs) n) ≡ looked_var (v ∷ vs) (cond b (Some 0) (option_map suc (first_at n (map (λ (w : variable). w.name) (vars_seen vs)))))
    by true h = refl
    by false h = h ∙ next (first_at n (map (λ (w : variable). w.name) (vars_seen vs)))
