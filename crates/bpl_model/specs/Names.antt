-- Sets of names, as they are made.
use Rattle.std.specs.Prelude.{ℕ, ◌+◌, cond, List, [], ◌∷◌, ◌++◌, map, bytes_eq}
use Rattle.std.specs.Borrow.{Bor}
use Rattle.std.specs.List.{list_any}
use Rattle.bpl_model.specs.Module.{Name}

abbrev pub names_seen : List (Bor (List ℕ)) → List (List ℕ)
names_seen ns = map (λ n. n.now) ns

-- a name that is there already isn't put in again
abbrev pub with_name : List Name → Name → List Name
with_name ns n = cond (list_any (bytes_eq n) ns) ns (ns ++ n ∷ [])

abbrev pub with_names : List Name → List Name → List Name
with_names ns [] = ns
with_names ns (x ∷ xs) = with_names (with_name ns x) xs

-- where a name stands; where it doesn't, behind all of them
abbrev pub place : List Name → Name → ℕ
place [] n = 0
place (m ∷ ms) n = cond (bytes_eq n m) 0 (1 + place ms n)
