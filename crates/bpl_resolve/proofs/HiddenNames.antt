-- Names that bound variables have stand for no function; so what is applied under them is a name that none of them has.
use Rattle.std.proofs.Common.{◌≡◌, refl, ap, sym, ◌∙◌, inl, inr, subst, ℕ, ◌+◌, Bool, true, false, List, [], ◌∷◌, ◌++◌, append-nil, map, reverse, Option, Some, None}
use Rattle.std.specs.Prelude.{bytes_eq}
use Rattle.logic_core.specs.Tree.{Kind}
use Rattle.bpl_ast.specs.Place.{Name, Ty}
use Rattle.bpl_ast.specs.Statement.{Argument}
use Rattle.bv_base.specs.Text.{is_among}
use Rattle.bpl_scopes.specs.Scopes.{Text, Heading, Table, only_names, texts_of, BoundVar, Scope, Meaning, bound_to, has_name, meaning, bound_meaning, free_meaning, var_of}
use Rattle.bpl_scopes.specs.Sorts.{sort_of_type, bounds_of, applied_heading}
use Rattle.bpl_scopes.specs.Functions.{name_applies, argument_names}
use Rattle.bpl_declaration_faults.specs.Variables.{bound_argument}
use Rattle.bpl_resolve.proofs.Below.{back_onto}
use Rattle.bpl_resolve.proofs.Ways.{Member, any_member, same_text, text_itself}
use Rattle.bpl_resolve.proofs.FunctionOrder.{stays}
use Rattle.bpl_resolve.proofs.TypeSorts.{member_right}

-- each of the names has the property
abbrev pub Each : (Text → Type 0) → List Text → Type 0
Each P ns = (m : Text) → Member m ns → P m

pub first_each : (P : Text → Type 0) (xs ys : List Text) → Each P (xs ++ ys) → Each P xs
first_each P xs ys a m i = a m (stays m xs ys i)

pub second_each : (P : Text → Type 0) (xs ys : List Text) → Each P (xs ++ ys) → Each P ys
second_each P xs ys a m i = a m (member_right m xs ys i)

-- under these bound variables the name stands for no function
abbrev pub HidesName : List BoundVar → Text → Type 0
HidesName bs n = (j : ℕ) (m : Meaning) → applied_heading (bound_meaning j bs n m) ≡ None

abbrev pub Hides : List BoundVar → List Text → Type 0
Hides bs h = (n : Text) → Member n h → HidesName bs n

or_bound : (r : Bool) (j : ℕ) (k : Option Kind) (m : Meaning) → applied_heading m ≡ None → applied_heading (elim r [ true ↦ bound_to j k | false ↦ m ]) ≡ None
or_bound true j k m h = refl
or_bound false j k m h = h

is_bound : (r : Bool) (j : ℕ) (k : Option Kind) (m : Meaning) → r ≡ true → applied_heading (elim r [ true ↦ bound_to j k | false ↦ m ]) ≡ None
is_bound true j k m e = refl
is_bound false j k m e = cc

one_more : (b : BoundVar) (bs : List BoundVar) (n : Text) → HidesName bs n → HidesName (b ∷ bs) n
one_more b bs n h j m = or_bound (has_name n b.name) j b.sort (bound_meaning (j + 1) bs n m) (h (j + 1) m)

more : (cs bs : List BoundVar) (n : Text) → HidesName bs n → HidesName (cs ++ bs) n
more [] bs n h = h
more (c ∷ cs) bs n h = one_more c (cs ++ bs) n (more cs bs n h)

its_own : (k : Option Kind) (bs : List BoundVar) (n m : Text) → n ≡ m → HidesName (record { name = Some m; sort = k } ∷ bs) n
its_own k bs n m e j o = is_bound (bytes_eq n m) j k (bound_meaning (j + 1) bs n o) (ap (bytes_eq n) (sym e) ∙ text_itself n)

-- the variables of a quantifier's groups
pub hides_groups : (t : Table) (hidden : List Text) (ps : List (Name × Ty)) (bs : List BoundVar) (h : List Text) → Hides bs h → Hides (bounds_of t hidden ps ++ bs) (texts_of (only_names ps) ++ h)
hides_groups t hidden [] bs h g = g
hides_groups t hidden (p ∷ ps) bs h g = λ n i. subst (λ w. HidesName w n) (sym (back_onto b (map (λ (q : Name × Ty). record { name = Some ((q.0).text); sort = sort_of_type t hidden q.1 }) ps) bs))
    (by n (λ k. hides_groups t hidden ps (b ∷ bs) h (λ m l. one_more b bs m (g m l)) n k) i)
  where
    b : BoundVar
    b = record { name = Some ((p.0).text); sort = sort_of_type t hidden p.1 }

    by : (n : Text) → (Member n (texts_of (only_names ps) ++ h) → HidesName (bounds_of t hidden ps ++ (b ∷ bs)) n)
        → Member n ((p.0).text ∷ (texts_of (only_names ps) ++ h)) → HidesName (bounds_of t hidden ps ++ (b ∷ bs)) n
    by n later (inl e) = more (bounds_of t hidden ps) (b ∷ bs) n (its_own (sort_of_type t hidden p.1) bs n (p.0).text e)
    by n later (inr i) = later i

-- the parameters of a function
hides_arguments : (t : Table) (ins : List Argument) (bs : List BoundVar) (h : List Text) → Hides bs h → Hides (reverse (map (bound_argument t) ins) ++ bs) (texts_of (argument_names ins) ++ h)
hides_arguments t [] bs h g = g
hides_arguments t (a ∷ ins) bs h g = λ n i. subst (λ w. HidesName w n) (sym (back_onto (bound_argument t a) (map (bound_argument t) ins) bs))
    (by n (λ b k. hides_arguments t ins (b ∷ bs) h (λ m l. one_more b bs m (g m l)) n k) a.name i)
  where
    by : (n : Text) → ((b : BoundVar) → Member n (texts_of (argument_names ins) ++ h) → HidesName (reverse (map (bound_argument t) ins) ++ (b ∷ bs)) n)
        → (o : Option Name) → Member n (texts_of (elim o [ None ↦ [] | Some m ↦ m ∷ [] ] ++ argument_names ins) ++ h)
        → HidesName (reverse (map (bound_argument t) ins) ++ (record { name = elim o [ None ↦ None | Some m ↦ Some m.text ]; sort = sort_of_type t [] a.type } ∷ bs)) n
    by n later None i = later _ i
    by n later (Some m) (inl e) = more (reverse (map (bound_argument t) ins)) _ n (its_own (sort_of_type t [] a.type) bs n m.text e)
    by n later (Some m) (inr i) = later _ i

pub arguments_hide : (t : Table) (ins : List Argument) → Hides (reverse (map (bound_argument t) ins)) (texts_of (argument_names ins))
arguments_hide t ins = subst (λ w. Hides w (texts_of (argument_names ins))) (append-nil (reverse (map (bound_argument t) ins)))
    (subst (Hides (reverse (map (bound_argument t) ins) ++ [])) (append-nil (texts_of (argument_names ins))) (hides_arguments t ins [] [] (λ n i. absurd i)))

-- a name that is applied as a function is among those that are applied
pub applied_is : (P : Text → Type 0) (s : Scope) (h : List Text) → Hides s.bounds h → (n : Text) (k : Heading) → applied_heading (meaning s n) ≡ Some k → Each P (name_applies h n) → P n
unfolding meaning
applied_is P s h g n k e a = by (is_among h n) refl a
  where
    there : is_among h n ≡ true → Member n h
    there q = let r = any_member (bytes_eq n) h q in subst (λ w. Member w h) (sym (same_text n r.0 r.2)) r.1

    by : (r : Bool) → is_among h n ≡ r → Each P (elim r [ true ↦ [] | false ↦ n ∷ [] ]) → P n
    by true q z = let bad : None ≡ Some k = sym (g n (there q) 0 (free_meaning s n (var_of s.vars n))) ∙ e in cc
    by false q z = z n (inl refl)
