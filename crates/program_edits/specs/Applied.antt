-- Puts and drops applied to declarations: which declaration a name means, and what stands where.
use Rattle.std.specs.Prelude.{ℕ, nat_eq, nat_le, Bool, true, false, ◌&&◌, not, cond, List, [], ◌∷◌, ◌++◌, map, filter, Option, Some, None, bytes_eq}
use Rattle.std.specs.List.{list_all}
use Rattle.bpl_ast.specs.Statement.{DeclBody, axiom_of, Decl, name_of, axioms_with}
use Rattle.bv_base.specs.Text.{is_among}
use Rattle.bpl_scopes.specs.Positions.{at_name}

abbrev pub is_axiom : DeclBody → Bool
is_axiom (axiom_of x) = true
is_axiom b = false

abbrev pub is_digit : ℕ → Bool
is_digit b = nat_le 48 b && nat_le b 57

-- a decimal number from 1, without leading zeros
abbrev pub is_count : List ℕ → Bool
is_count [] = false
is_count (b ∷ bs) = nat_le 49 b && list_all is_digit (b ∷ bs)

-- `@k`: the name of some axiom
abbrev pub is_axiom_name : List ℕ → Bool
is_axiom_name [] = false
is_axiom_name (b ∷ bs) = nat_eq b 64 && is_count bs

-- a declaration of this name; an axiom is one of every axiom's name
abbrev pub declares : List ℕ → Decl → Bool
declares n d = cond (is_axiom d.body) (is_axiom_name n) (bytes_eq n d.name)

-- exactly one declaration, of this name, which it has then
abbrev pub the_one : List ℕ → List Decl → Option Decl
the_one n [] = None
the_one n (d ∷ []) = cond (declares n d) (Some (record d { name = n })) None
the_one n (d ∷ e ∷ ds) = None

-- the axioms are named `@1`, `@2` and so on, where k stand before
abbrev pub renamed : ℕ → Decl → Decl
renamed k d = cond (is_axiom d.body) (record d { name = name_of k d.body }) d

abbrev pub numbered : ℕ → List Decl → List Decl
numbered k [] = []
numbered k (d ∷ ds) = renamed k d ∷ numbered (axioms_with k d.body) ds

abbrev pub names : List Decl → List (List ℕ)
names ds = map (λ d. d.name) ds

-- the put of the declaration's name, or else the declaration
abbrev pub in_place : List Decl → Decl → Decl
in_place puts d = at_name d (names puts) puts d.name

-- drops are taken out, a put takes the place of the declaration of its name, and the other puts go to the end in order
abbrev pub applied : List Decl → List Decl → List (List ℕ) → List Decl
applied old puts drops =
    map (in_place puts) (filter (λ d. not (is_among drops d.name)) old)
    ++ filter (λ p. not (is_among (names old) p.name)) puts
