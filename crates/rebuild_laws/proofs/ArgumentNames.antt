-- The parameters of a function as bound variables: their names, which are the same in declarations that are the same but for places, and which they hide.
use Rattle.std.specs.Prelude.{◌≡◌, ◌+◌, Bool, true, false, ◌||◌, List, [], ◌∷◌, ◌++◌, map, reverse, bytes_eq, Option, Some, None, option_map}
use Rattle.std.proofs.Common.{refl, ap, sym, ◌∙◌, append-nil}
use Rattle.logic_core.proofs.Booleans.{or_false}
use Rattle.bpl_ast.specs.Place.{Name}
use Rattle.bpl_ast.specs.Statement.{Argument}
use Rattle.bv_base.specs.Text.{is_among}
use Rattle.bpl_scopes.specs.Scopes.{Text, Table, texts_of, BoundVar, bound_names}
use Rattle.bpl_scopes.specs.Sorts.{sort_of_type}
use Rattle.bpl_scopes.specs.Functions.{argument_names}
use Rattle.bpl_declaration_faults.specs.Variables.{bound_argument}
use Rattle.canonical_text.specs.Same.{bare_name}
use Rattle.canonical_text.specs.SameStatement.{bare_argument}
use Rattle.bpl_resolve.proofs.Below.{back_onto}
use Rattle.rebuild_laws.proofs.ScopesAlike.{SameBounds}

-- parameters as bound variables have their names, the last first
abbrev given : Argument → Option Text
given a = elim a.name [ None ↦ None | Some n ↦ Some n.text ]

abbrev names_in : List BoundVar → List (Option Text)
names_in bs = map (λ (b : BoundVar). b.name) bs

bound_given : (t : Table) (ins : List Argument) (bs : List BoundVar) → names_in (reverse (map (bound_argument t) ins) ++ bs) ≡ reverse (map given ins) ++ names_in bs
bound_given t [] bs = refl
bound_given t (a ∷ ins) bs =
    ap names_in (back_onto (bound_argument t a) (map (bound_argument t) ins) bs)
    ∙ (bound_given t ins (bound_argument t a ∷ bs) ∙ sym (back_onto (given a) (map given ins) (names_in bs)))

all_given : (t : Table) (ins : List Argument) → names_in (reverse (map (bound_argument t) ins)) ≡ reverse (map given ins)
all_given t ins = ap names_in (sym (append-nil (reverse (map (bound_argument t) ins)))) ∙ (bound_given t ins [] ∙ append-nil (reverse (map given ins)))

given_bare : (ins : List Argument) → map given (map bare_argument ins) ≡ map given ins
given_bare [] = refl
given_bare (a ∷ ins) = λ i. by a.name i ∷ given_bare ins i
  where
    by : (o : Option Name) → ◌≡◌ {A = Option Text} (elim (option_map bare_name o) [ None ↦ None | Some n ↦ Some n.text ]) (elim o [ None ↦ None | Some n ↦ Some n.text ])
    by None = refl
    by (Some n) = refl

pub same_bounds : (t u : Table) (xs ys : List Argument) → map bare_argument xs ≡ map bare_argument ys → SameBounds (reverse (map (bound_argument t) xs)) (reverse (map (bound_argument u) ys))
same_bounds t u xs ys e = all_given u ys ∙ (ap reverse (sym (given_bare ys) ∙ (ap (map given) (sym e) ∙ given_bare xs)) ∙ sym (all_given t xs))

-- they hide their names
hidden_onto : (t : Table) (n : Text) (ins : List Argument) (bs : List BoundVar)
    → is_among (bound_names (reverse (map (bound_argument t) ins) ++ bs)) n ≡ (is_among (texts_of (argument_names ins)) n || is_among (bound_names bs) n)
hidden_onto t n [] bs = refl
hidden_onto t n (a ∷ ins) bs =
    ap (λ ws. is_among (bound_names ws) n) (back_onto (bound_argument t a) (map (bound_argument t) ins) bs)
    ∙ (hidden_onto t n ins (bound_argument t a ∷ bs) ∙ by a.name)
  where
    swap : (x e b : Bool) → (x || (e || b)) ≡ ((e || x) || b)
    swap true true b = refl
    swap true false b = refl
    swap false true b = refl
    swap false false b = refl

    by : (o : Option Name) → (is_among (texts_of (argument_names ins)) n || is_among (bound_names (record { name = elim o [ None ↦ None | Some m ↦ Some m.text ]; sort = sort_of_type t [] a.type } ∷ bs)) n)
        ≡ (is_among (texts_of (elim o [ None ↦ [] | Some m ↦ m ∷ [] ] ++ argument_names ins)) n || is_among (bound_names bs) n)
    by None = refl
    by (Some m) = swap (is_among (texts_of (argument_names ins)) n) (bytes_eq n m.text) (is_among (bound_names bs) n)

pub hidden_by_arguments : (t : Table) (ins : List Argument) (n : Text) → is_among (texts_of (argument_names ins)) n ≡ is_among (bound_names (reverse (map (bound_argument t) ins)) ++ []) n
hidden_by_arguments t ins n =
    sym (ap (λ ws. is_among ws n) (append-nil (bound_names (reverse (map (bound_argument t) ins))))
    ∙ (ap (λ ws. is_among (bound_names ws) n) (sym (append-nil (reverse (map (bound_argument t) ins))))
    ∙ (hidden_onto t n ins [] ∙ or_false (is_among (texts_of (argument_names ins)) n))))
