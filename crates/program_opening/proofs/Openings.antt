-- What declarations are, by their faults and the goals of their module; and what a text is, by its declarations or its fault.
use Rattle.std.specs.Prelude.{◌≡◌, ◌≢◌, ℕ, zero, suc, ◌-◌, ◌^◌, ◌<◌, ◌≤◌, List, [], ◌∷◌, ◌++◌, length, Option, Some, None, option_map}
use Rattle.std.proofs.lemmas.List.Elements.{recursion_from_All, All-from_recursion}
use Rattle.bv_base.specs.declared.place.Place.{Place}
use Rattle.bpl_ast.specs.Place.{Ty}
use Rattle.std.specs.List.{AllByRecursion}
use Rattle.std.proofs.Common.{refl, ap, sym, subst, ◌∙◌, get_or, inl, inr, arith}
use Rattle.bpl_ast.specs.Statement.{Decl}
use Rattle.bpl_grammar.specs.Judge.{syntax, deep, wide}
use Rattle.bpl_grammar.specs.Fault.{lexical, marked}
use Rattle.bpl_grammar.specs.Programs.{SpellsProgram}
use Rattle.bpl_parse.specs.Program.{IsFaultOf}
use Rattle.bpl_parse.specs.declared.fault.Fault.{Fault as TextFault}
use Rattle.bpl_parse.specs.declared.fault.Fault.TheVariants.{Lex, Syntax, Deep, Wide, Memory}
use Rattle.bpl_scopes.specs.declared.fault.Fault.{Fault}
use Rattle.bpl_declaration_faults.specs.DeclFaults.{fault_of}
use Rattle.bpl_model.specs.Module.{Module}
use Rattle.bpl_resolve.specs.Elaborate.{module_of}
use Rattle.vc_build.specs.declared.fault.Measure.{Measure}
use Rattle.vc_build.specs.Large.{program_large}
use Rattle.fault_text.specs.Written.{Written}
use Rattle.fault_text.specs.WrittenFault.{decl_fault}
use Rattle.fault_text.specs.FaultView.{IsWrittenOf, SourcesAreShort}
use Rattle.fault_text.proofs.InText.{sources_short}
use Rattle.program_opening.specs.Opening.{program, refused, Typing, typed, ill_typed, told_carrier, typing_by_carriers, typing_by, typing, opening, size_fault, unless_large, within_limits}
use Rattle.bpl_scopes.specs.Scopes.{Table, table_of}
use Rattle.user_types.specs.Erased.{users_with, replaced_from, replaced, Unique, one_more, axioms_from, carrier_axioms, as_integers, erased, maps_over, told_apart}
use Rattle.user_types.specs.CarrierFaults.{carrier_fault}
use Rattle.fault_text.proofs.Position.{fault_there}
use Rattle.program_opening.specs.OpenedView.{IsTypedAs, IsOpened, IsOpenedText}
use Rattle.program_opening.specs.declared.typing.Typed.{Typed}
use Rattle.program_opening.specs.declared.opening.Opened.{Opened}
use Rattle.program_opening.specs.declared.opening.Opened.TheVariants as opened

pub faulty_is : (ds : List Decl) (p : ℕ × Fault) (w : Written) → fault_of (erased ds) ≡ Some p → w ≡ decl_fault (erased ds) p → typing ds ≡ ill_typed w
faulty_is ds p w e is = ap (typing_by ds) e ∙ ap ill_typed (sym is)

-- without a fault of the erased declarations
pub faultless_is : (ds : List Decl) → fault_of (erased ds) ≡ None → typing ds ≡ typing_by_carriers ds (carrier_fault ds)
faultless_is ds e = ap (typing_by ds) e

pub typed_as : (ds : List Decl) (t : Typed) → fault_of (erased ds) ≡ None → IsTypedAs (typing_by_carriers ds (carrier_fault ds)) t → IsTypedAs (typing ds) t
typed_as ds t e h = subst (λ o. IsTypedAs o t) (sym (faultless_is ds e)) h

pub carriers_told : (ds : List Decl) (p : ℕ × Place) (w : Written) → carrier_fault ds ≡ Some p → w ≡ told_carrier ds p → typing_by_carriers ds (carrier_fault ds) ≡ ill_typed w
carriers_told ds p w e is = ap (typing_by_carriers ds) e ∙ ap ill_typed (sym is)

pub carriers_right : (ds : List Decl) (m : Module) → carrier_fault ds ≡ None → m ≡ module_of (erased ds) → typing_by_carriers ds (carrier_fault ds) ≡ typed m
carriers_right ds m e is = ap (typing_by_carriers ds) e ∙ ap typed (sym is)

-- the declarations told apart are as many
as_many : (f : ℕ → Place → Ty) (t : Table) (k : ℕ) (ds : List Decl) → length (replaced_from f t k ds) ≡ length ds
as_many f t k [] = refl
as_many f t k (d ∷ ds) = ap suc (as_many f t (users_with k d.body) ds)

placed : (o : Option (ℕ × Fault)) (p : ℕ × Place) → option_map {U = ℕ × Place} (λ (q : ℕ × Fault). (q.0, q.1.at)) o ≡ Some p → (q : ℕ × Fault) × (o ≡ Some q) × (q.0 ≡ p.0)
placed None p h = absurd (cc)
placed (Some q) p h = let same : ◌≡◌ {A = ℕ × Place} (q.0, q.1.at) p = cc in (q, refl, ap (λ (r : ℕ × Place). r.0) same)

pub carrier_there : (ds : List Decl) (p : ℕ × Place) → carrier_fault ds ≡ Some p → p.0 < length ds
carrier_there ds p h =
    let q = placed (fault_of (told_apart ds)) p h in
    let within = fault_there (told_apart ds) q.0 q.1 in
    let same = q.2 in
    let many = as_many maps_over (table_of ds) 0 ds in
    omega (arith, within, same, many)

-- the bytes of declarations stay, and those at the end have none
abbrev IsShort : Decl → Type 0
IsShort d = length d.source < 2 ^ 32 - 1

short_replaced : (f : ℕ → Place → Ty) (t : Table) (k : ℕ) (ds : List Decl) → AllByRecursion IsShort ds → AllByRecursion IsShort (replaced_from f t k ds)
short_replaced f t k [] h = tt
short_replaced f t k (d ∷ ds) h = (h.0, short_replaced f t (users_with k d.body) ds h.1)

short_axioms : (count : ℕ → ℕ) (k : ℕ) (us : List Unique) → AllByRecursion IsShort (axioms_from count k us)
short_axioms count k [] = tt
short_axioms count k (u ∷ us) = (omega arith, short_axioms (one_more count u.0) (suc k) us)

short_joined : (ds es : List Decl) → AllByRecursion IsShort ds → AllByRecursion IsShort es → AllByRecursion IsShort (ds ++ es)
short_joined [] es h k = k
short_joined (d ∷ ds) es h k = (h.0, short_joined ds es h.1 k)

pub sources_stay : (ds : List Decl) → SourcesAreShort ds → SourcesAreShort (erased ds)
sources_stay ds h = All-from_recursion IsShort (erased ds) (short_joined (replaced as_integers ds) (carrier_axioms ds) (short_replaced as_integers (table_of ds) 0 ds (recursion_from_All IsShort ds h)) (short_axioms (λ i. 0) _ _))

pub large_is : (m : Module) (what : Measure) (number : ℕ) (w : Written) → program_large m ≡ Some (what, number) → w ≡ size_fault what number → unless_large m (program_large m) ≡ refused w
large_is m what number w found is = ap (unless_large m) found ∙ ap refused (sym is)

-- ---- a text

each_at : (n : ℕ) (ds : List Decl) (k : ℕ) (d : Decl) → AllByRecursion (λ (x : Decl). length x.source ≤ n) ds → k < length ds → length (get_or ds k d).source ≤ n
each_at n [] k d h below = absurd (omega (arith, below))
each_at n (x ∷ ds) zero d h below = h.0
each_at n (x ∷ ds) (suc k) d h below = each_at n ds k d h.1 (omega (arith, below))

-- a declaration's bytes are few where the text's are
pub short : (text : List ℕ) (ds : List Decl) → length text < 2 ^ 32 - 1 → SpellsProgram text ds → SourcesAreShort ds
short text ds fits spelled k d below = omega (arith, fits, each_at (length text) ds k d (sources_short text ds spelled) below)

pub spelled_is : (text : List ℕ) (ds : List Decl) (a : Opened) → SpellsProgram text ds → IsOpened (opening ds) a → IsOpenedText text a
spelled_is text ds a spelled is = (opening ds, inl (record { decls = ds; spelled = spelled; is = refl }), is)

pub told_is : (text : List ℕ) (f : TextFault) (w : Written) → f ≢ Memory → IsFaultOf text f → IsWrittenOf text f w → IsOpenedText text (opened.Refused w)
told_is text (Lex at) w h there is = (refused w, inr (record { fault = lexical at; there = there; is = ap refused is }), refl)
told_is text (Syntax at) w h there is = (refused w, inr (record { fault = marked syntax at; there = there; is = ap refused is }), refl)
told_is text (Deep at) w h there is = (refused w, inr (record { fault = marked deep at; there = there; is = ap refused is }), refl)
told_is text (Wide at) w h there is = (refused w, inr (record { fault = marked wide at; there = there; is = ap refused is }), refl)
told_is text Memory w h there is = absurd (h refl)

-- ---- a program has no fault, and its module is that of its declarations

of_large : (m n : Module) (o : Option (Measure × ℕ)) → program m ≡ unless_large n o → m ≡ n
of_large m n None h = cc
of_large m n (Some p) h = absurd (cc)

of_typing : (m : Module) (t : Typing) → program m ≡ within_limits t → t ≡ typed m
of_typing m (typed n) h = ap typed (sym (of_large m n (program_large n) h))
of_typing m (ill_typed w) h = absurd (cc)

-- their module is that by names and types
pub typed_of : (ds : List Decl) (m : Module) → program m ≡ opening ds → typing ds ≡ typed m
typed_of ds m h = of_typing m (typing ds) h

of_carriers : (ds : List Decl) (m : Module) (o : Option (ℕ × Place)) → carrier_fault ds ≡ o → typing_by_carriers ds o ≡ typed m → (m ≡ module_of (erased ds)) × (carrier_fault ds ≡ None)
of_carriers ds m None e h = (cc, e)
of_carriers ds m (Some p) e h = absurd (cc)

of_fault : (ds : List Decl) (m : Module) (o : Option (ℕ × Fault)) → fault_of (erased ds) ≡ o → typing_by ds o ≡ typed m → (fault_of (erased ds) ≡ None) × (m ≡ module_of (erased ds)) × (carrier_fault ds ≡ None)
of_fault ds m None e h =
    let c = of_carriers ds m (carrier_fault ds) refl h in
    (e, c.0, c.1)
of_fault ds m (Some p) e h = absurd (cc)

pub program_of : (ds : List Decl) (m : Module) → program m ≡ opening ds → (fault_of (erased ds) ≡ None) × (m ≡ module_of (erased ds)) × (carrier_fault ds ≡ None)
program_of ds m h = of_fault ds m (fault_of (erased ds)) refl (typed_of ds m h)
