-- What is built of a whole program, and how much of it anew after an edit.
use Rattle.std.specs.Prelude.{◌≡◌, ℕ, Bool, not, List, map, filter, length, is_some, bytes_eq, Contains}
use Rattle.std.specs.List.{list_any}
use Rattle.bpl_model.specs.Module.{Name, Proc, Module}
use Rattle.vc_build.specs.Depends.{depends}
use Rattle.vc_build.specs.declared.goal.Goal.{Goal}
use Rattle.vc_build.specs.Goals.{goals}

pub record BuiltProc : Type 0 where
  pub name : Name
  pub depends : List ℕ
  pub goals : List Goal

-- the procedures with a body, in order
abbrev pub with_body : Module → List Proc
with_body m = filter (λ p. is_some p.body) m.procs

abbrev pub built : Module → List BuiltProc
built m = map (λ p. record { name = p.name; depends = depends m p; goals = goals m p }) (with_body m)

-- the dependency text stands in one of these procedures
abbrev pub stands_in : List BuiltProc → List ℕ → Bool
stands_in old text = list_any (λ b. bytes_eq text b.depends) old

-- the number of procedures whose dependency text stands in none of the old ones
abbrev pub rebuilt : List BuiltProc → Module → ℕ
rebuilt old m = length (filter (λ b. not (stands_in old b.depends)) (built m))

-- of modules that the resolver makes: equal dependency texts have equal obligations, whatever their places in the text
abbrev pub TextsFixObligations : (Module → Type 0) → Type 0
TextsFixObligations IsResolved = (m n : Module) (p q : Proc) → IsResolved m → IsResolved n → Contains (with_body m) p → Contains (with_body n) q
    → depends m p ≡ depends n q → map (λ g. g.obligation) (goals m p) ≡ map (λ g. g.obligation) (goals n q)
