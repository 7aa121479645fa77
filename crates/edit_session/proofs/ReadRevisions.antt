-- What revisions bring, by what the code finds of each.
use Rattle.std.proofs.Common.{◌≡◌, refl, sym, ap, ◌∙◌, subst, arith, ℕ, zero, suc, ◌+◌, ◌<◌, ◌≤◌, Bool, false, IsTrue, is_none, List, [], ◌∷◌, ◌++◌, length, get_or, take, slice_get, Option, Some, None}
use Rattle.std.specs.Prelude.{IfSome}
use Rattle.std.specs.List.{AllByRecursion}
use Rattle.std.proofs.lemmas.Bool.{false≢true}
use Rattle.std.proofs.lemmas.List.{take_more, take_all}
use Rattle.std.proofs.lemmas.Option.{get_or_from_slice_get}
use Rattle.bpl_ast.specs.Statement.{Decl}
use Rattle.bpl_scopes.specs.declared.fault.Fault.{Fault}
use Rattle.bpl_scopes.specs.Functions.{in_number_order}
use Rattle.bpl_scopes.specs.Scopes.{table_of, no_counts, counts_after}
use Rattle.user_types.specs.Erased.{erased, told_apart}
use Rattle.body_revision.specs.Names.{DeclareAlike, AreNamesOf, own_fault}
use Rattle.body_revision.specs.Revised.{IsRevised}
use Rattle.body_revision.specs.Revision.{IsNew, IsMade, AreNew, AreRevised, HaveNoFaults}
use Rattle.body_revision.proofs.NewInReadings.{made_is_new}
use Rattle.body_revision.specs.declared.declared_names.DeclaredNames.{DeclaredNames}
use Rattle.body_revision.specs.declared.revised.Revision.{Revision}
use Rattle.program_edits.specs.Replaced.{AreThere}
use Rattle.program_edits.specs.declared.replaced.Replacement.{Replacement}
use Rattle.program_opening.specs.NoUsers.{has_user_types}
use Rattle.edit_session.specs.Revising.{changes, AreBrought, AreRevisions, IsRevision}
use Rattle.edit_session.proofs.PlainNames.{plain_declares}

-- ---- names

-- of programs that declare the same
pub names_alike : (ds es : List Decl) (n : DeclaredNames) → DeclareAlike ds es → AreNamesOf ds n → AreNamesOf es n
names_alike ds es n same names = record { alike = record { table = names.alike.table ∙ same.table; counts = names.alike.counts ∙ same.counts }; order = names.order ∙ ap in_number_order same.table }

pub in_order : (ds : List Decl) (n : DeclaredNames) → AreNamesOf ds n → n.order ≡ in_number_order (table_of n.declarations)
in_order ds n names = names.order ∙ ap in_number_order (sym names.alike.table)

-- ---- one

-- of what stands there it is a revision
pub revised_there : (ds : List Decl) (at : ℕ) (x e : Decl) → x ≡ get_or ds at x → IsRevised x.body e.body → (d : Decl) → slice_get ds at ≡ Some d → IsRevised d.body e.body
revised_there ds at x e is r d g = subst (λ (y : Decl). IsRevised y.body e.body) (is ∙ get_or_from_slice_get ds at d x g) r

pub one_revision : (ds : List Decl) (r : Replacement) (x : Decl) (n : DeclaredNames) (count : ℕ) (q : Option Revision) → AreNamesOf (erased ds) n → count ≡ length (erased ds) → r.at < length ds
    → x ≡ get_or ds r.at x → IsRevised x.body r.decl.body → IfSome q (IsMade n ds r.at count r.decl) → IfSome q (IsRevision ds r)
one_revision ds r x n count None names all there is same made = tt
one_revision ds r x n count (Some v) names all there is same made =
    let revised = revised_there ds r.at x r.decl is same in
    record { there = there; revised = revised; new = made_is_new ds r.at r.decl n names there count v revised all made }

-- ---- several

-- the place of each is there
pub there_at : (ds : List Decl) (rs : List Replacement) (i : ℕ) (r : Replacement) → i < length rs → r ≡ get_or rs i r → AreThere ds rs → r.at < length ds
there_at ds [] i r below is h = absurd (omega (arith, below))
there_at ds (q ∷ rs) zero r below is h = subst (λ (x : Replacement). x.at < length ds) (sym is) h.0
there_at ds (q ∷ rs) (suc i) r below is h = there_at ds rs i r (omega (arith, below)) is h.1

-- one more, behind those that are found
all_behind : (P : ℕ × Decl → Type 0) (rs : List Replacement) (r : Replacement) → AllByRecursion P (changes rs) → P (r.at, r.decl) → AllByRecursion P (changes (rs ++ r ∷ []))
all_behind P [] r all one = (one, tt)
all_behind P (q ∷ rs) r all one = (all.0, all_behind P rs r all.1 one)

new_behind : (ds : List Decl) (rs : List Replacement) (vs : List Revision) (r : Replacement) (v : Revision) → AreNew ds (changes rs) vs → IsNew ds r.at r.decl v → AreNew ds (changes (rs ++ r ∷ [])) (vs ++ v ∷ [])
new_behind ds [] [] r v new one = (one, tt)
new_behind ds [] (w ∷ vs) r v new one = absurd new
new_behind ds (q ∷ rs) [] r v new one = absurd new
new_behind ds (q ∷ rs) (w ∷ vs) r v new one = (new.0, new_behind ds rs vs r v new.1 one)

one_more : (ds : List Decl) (rs : List Replacement) (vs : List Revision) (r : Replacement) (v : Revision) → AreBrought ds rs vs → IsRevision ds r v → AreBrought ds (rs ++ r ∷ []) (vs ++ v ∷ [])
one_more ds rs vs r v h one = record {
  revised = all_behind (λ (c : ℕ × Decl). (c.0 < length ds) × ((d : Decl) → slice_get ds c.0 ≡ Some d → IsRevised d.body (c.1).body)) rs r h.revised (one.there, one.revised);
  new = new_behind (erased ds) rs vs r v h.new one.new;
}

pub none_yet : (ds : List Decl) (vs : List Revision) → vs ≡ [] → AreBrought ds [] vs
none_yet ds vs none = subst (AreBrought ds []) (sym none) (record { revised = tt; new = tt })

one_behind : (rs : List Replacement) (i : ℕ) (r : Replacement) → i < length rs → r ≡ get_or rs i r → take (i + 1) rs ≡ take i rs ++ r ∷ []
one_behind rs i r below is = take_more rs i r below ∙ ap (λ (x : Replacement). take i rs ++ x ∷ []) (sym is)

pub next_revision : (ds : List Decl) (rs : List Replacement) (i : ℕ) (r : Replacement) (vs ws : List Revision) (v : Revision) → i < length rs → r ≡ get_or rs i r → ws ≡ vs ++ v ∷ [] → AreBrought ds (take i rs) vs → IsRevision ds r v
    → AreBrought ds (take (i + 1) rs) ws
next_revision ds rs i r vs ws v below is pushed h one =
    subst (λ (qs : List Replacement). AreBrought ds qs ws) (sym (one_behind rs i r below is)) (subst (AreBrought ds (take i rs ++ r ∷ [])) (sym pushed) (one_more ds (take i rs) vs r v h one))

pub all_revisions : (ds : List Decl) (rs : List Replacement) (i : ℕ) (vs : List Revision) → length rs ≤ i → AreBrought ds (take i rs) vs → AreBrought ds rs vs
all_revisions ds rs i vs end h = subst (λ (qs : List Replacement). AreBrought ds qs vs) (take_all i rs end) h

pub next_revised : (ds : List Decl) (rs : List Replacement) (i : ℕ) (r : Replacement) → i < length rs → r ≡ get_or rs i r → r.at < length ds → ((d : Decl) → slice_get ds r.at ≡ Some d → IsRevised d.body r.decl.body)
    → AreRevised ds (changes (take i rs)) → AreRevised ds (changes (take (i + 1) rs))
next_revised ds rs i r below is there revised h =
    subst (λ (qs : List Replacement). AreRevised ds (changes qs)) (sym (one_behind rs i r below is))
    (all_behind (λ (c : ℕ × Decl). (c.0 < length ds) × ((d : Decl) → slice_get ds c.0 ≡ Some d → IsRevised d.body (c.1).body)) (take i rs) r h (there, revised))

pub are_revised : (ds : List Decl) (rs : List Replacement) (i : ℕ) → length rs ≤ i → AreRevised ds (changes (take i rs)) → AreRevised ds (changes rs)
are_revised ds rs i end h = subst (λ (qs : List Replacement). AreRevised ds (changes qs)) (take_all i rs end) h

-- ---- their faults

none_is : (f : Option Fault) (b : Bool) → b ≡ is_none f → IsTrue b → f ≡ None
none_is None b is h = refl
none_is (Some f) b is h = absurd (false≢true (sym is ∙ h))

pub next_faultless : (ds : List Decl) (rs : List Replacement) (i : ℕ) (r : Replacement) (b : Bool) → i < length rs → r ≡ get_or rs i r → b ≡ is_none (own_fault (table_of ds) (counts_after no_counts ds) r.decl.body) → IsTrue b
    → HaveNoFaults ds (changes (take i rs)) → HaveNoFaults ds (changes (take (i + 1) rs))
next_faultless ds rs i r b below is told so h =
    subst (λ (qs : List Replacement). HaveNoFaults ds (changes qs)) (sym (one_behind rs i r below is))
    (all_behind (λ (c : ℕ × Decl). own_fault (table_of ds) (counts_after no_counts ds) (c.1).body ≡ None) (take i rs) r h (none_is (own_fault (table_of ds) (counts_after no_counts ds) r.decl.body) b told so))

pub all_faultless : (ds : List Decl) (rs : List Replacement) (i : ℕ) → length rs ≤ i → HaveNoFaults ds (changes (take i rs)) → HaveNoFaults ds (changes rs)
all_faultless ds rs i end h = subst (λ (qs : List Replacement). HaveNoFaults ds (changes qs)) (take_all i rs end) h

-- in programs that declare the same they are the same
pub faultless_alike : (ds es : List Decl) (cs : List (ℕ × Decl)) → DeclareAlike ds es → HaveNoFaults ds cs → HaveNoFaults es cs
faultless_alike ds es [] same h = tt
faultless_alike ds es (c ∷ cs) same h = (sym (λ i. own_fault (same.table i) (same.counts i) (c.1).body) ∙ h.0, faultless_alike ds es cs same h.1)

new_faultless : (ds : List Decl) (cs : List (ℕ × Decl)) (vs : List Revision) → AreNew ds cs vs → HaveNoFaults ds cs
new_faultless ds [] [] new = tt
new_faultless ds [] (v ∷ vs) new = absurd new
new_faultless ds (c ∷ cs) [] new = absurd new
new_faultless ds (c ∷ cs) (v ∷ vs) new = (new.0.faultless, new_faultless ds cs vs new.1)

-- without user types they are those of both readings
pub plain_revisions : {A : Type 0} (ds : List Decl) (rs : List Replacement) (f : A → List Revision) (o : Option A) → has_user_types ds ≡ false → IfSome o (λ v. AreBrought ds rs (f v)) → IfSome o (λ v. AreRevisions ds rs (f v))
plain_revisions ds rs f None plain h = tt
plain_revisions ds rs f (Some v) plain h =
    let p = plain_declares ds plain in
    record { brought = h; apart = faultless_alike (erased ds) (told_apart ds) (changes rs) (record { table = sym p.0.table ∙ p.1.table; counts = sym p.0.counts ∙ p.1.counts }) (new_faultless (erased ds) (changes rs) (f v) h.new) }

pub read_revisions : {A : Type 0} (ds : List Decl) (rs : List Replacement) (f : A → List Revision) (o : Option A) → HaveNoFaults (told_apart ds) (changes rs) → IfSome o (λ v. AreBrought ds rs (f v)) → IfSome o (λ v. AreRevisions ds rs (f v))
read_revisions ds rs f None apart h = tt
read_revisions ds rs f (Some v) apart h = record { brought = h; apart = apart }
