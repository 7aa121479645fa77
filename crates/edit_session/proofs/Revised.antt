-- A program in which declarations take the places of others.
use Rattle.std.proofs.Common.{◌≡◌, ◌∙◌, refl, sym, ap, subst, ℕ, ◌<◌, ◌^◌, List, [], ◌∷◌, ◌++◌, length, slice_set, Option, Some, None, option_map}
use Rattle.std.specs.Prelude.{IfSome}
use Rattle.std.proofs.lemmas.List.{length-set}
use Rattle.bv_base.specs.declared.place.Place.{Place}
use Rattle.bpl_ast.specs.Statement.{Decl}
use Rattle.bpl_scopes.specs.declared.fault.Fault.{Fault}
use Rattle.bpl_declaration_faults.specs.DeclFaults.{fault_of}
use Rattle.bpl_goto.specs.Forward.{AllGoForward}
use Rattle.bpl_model.specs.Module.{Module}
use Rattle.bpl_model.specs.Typed.{IsTypedModule}
use Rattle.user_types.specs.Erased.{erased, told_apart}
use Rattle.user_types.proofs.NoneTaken.{no_fault}
use Rattle.canonical_text.specs.RoundTrip.{AreWrittenDecls}
use Rattle.fault_text.specs.FaultView.{SourcesAreShort}
use Rattle.bpl_resolve.specs.Elaborate.{module_of}
use Rattle.bpl_resolve.proofs.GoesForward.{goes_forward}
use Rattle.bpl_resolve.proofs.TypedModules.{module_typed}
use Rattle.rebuild_laws.specs.Resolved.{IsResolved}
use Rattle.body_revision.specs.Revision.{AreNew, HasPlaces, revised, all_put, all_revised}
use Rattle.body_revision.proofs.StayFaultless.{as_many_put, stay_faultless}
use Rattle.body_revision.proofs.StillNew.{go_together, new_there, over_all}
use Rattle.body_revision.specs.declared.revised.Revision.{Revision}
use Rattle.body_revision.proofs.ReadBodies.{readings_keep, all_apart}
use Rattle.vc_build.specs.Large.{program_large}
use Rattle.vc_build.specs.Rebuild.{BuiltProc, built, rebuilt}
use Rattle.vc_rebuild.specs.Kept.{Program}
use Rattle.goal_board.specs.Calls.{Board, BoardCall}
use Rattle.request_text.specs.Request.{Reply}
use Rattle.request_text.specs.ReplyView.{reply_view}
use Rattle.request_text.specs.declared.reply.Reply.{Reply as Told}
use Rattle.program_opening.specs.Opening.{typed, typing}
use Rattle.program_opening.proofs.Openings.{program_of, faultless_is, carriers_right}
use Rattle.edit_session.specs.Program.{IsModuleOf}
use Rattle.edit_session.specs.Kept.{IsOpen}
use Rattle.edit_session.specs.Told.{IsOpened}
use Rattle.edit_session.specs.Revising.{changes, AreRevisions, CanBePut, IsReopened}
use Rattle.program_edits.specs.Replaced.{with_replacements, AreThere}
use Rattle.program_edits.specs.declared.replaced.Replacement.{Replacement}
use Rattle.edit_session.proofs.OpenResolved.{as_many_texts, typed_resolved}
use Rattle.edit_session.proofs.Programs.{opens_so}

-- ---- the readings

puts_are : (ds : List Decl) (rs : List Replacement) → all_put ds (changes rs) ≡ with_replacements ds rs
puts_are ds [] = refl
puts_are ds (r ∷ rs) = ap (λ (es : List Decl). slice_set es r.at r.decl) (puts_are ds rs)

-- ---- the last is put first

revised_last : (m : Module) (vs : List Revision) (v : Revision) → all_revised m (vs ++ v ∷ []) ≡ all_revised (revised v m) vs
revised_last m [] v = refl
revised_last m (w ∷ vs) v = ap (revised w) (revised_last m vs v)

pub record LastPut (m : Module) (vs : List Revision) (v : Revision) : Type 0 where
  pub places : HasPlaces m v
  pub before : IsTypedModule m
  pub after : IsTypedModule (revised v m)
  pub rest : CanBePut (revised v m) vs

pub last_put : (m : Module) (vs : List Revision) (v : Revision) → CanBePut m (vs ++ v ∷ []) → LastPut m vs v
last_put m [] v h = record { places = h.1.0; before = h.0; after = h.1.1; rest = h.1.1 }
last_put m (w ∷ vs) v h =
    let r = last_put m vs v h.0 in
    record {
      places = r.places;
      before = r.before;
      after = r.after;
      rest = (r.rest, (subst (λ (x : Module). HasPlaces x w) (revised_last m vs v) h.1.0, subst IsTypedModule (revised_last m (w ∷ vs) v) h.1.1));
    }

pub none_revised : (m : Module) (vs : List Revision) → vs ≡ [] → all_revised m vs ≡ m
none_revised m vs none = ap (all_revised m) none

pub last_revised : (m : Module) (vs ws : List Revision) (v : Revision) → ws ≡ vs ++ v ∷ [] → all_revised m ws ≡ all_revised (revised v m) vs
last_revised m vs ws v e = ap (all_revised m) e ∙ revised_last m vs v

can_be_put : (ds : List Decl) (cs : List (ℕ × Decl)) (vs : List Revision) → fault_of ds ≡ None → AreNew ds cs vs → CanBePut (module_of ds) vs
can_be_put ds [] [] none new = module_typed ds none
can_be_put ds [] (v ∷ vs) none new = absurd new
can_be_put ds (c ∷ cs) [] none new = absurd new
can_be_put ds (c ∷ cs) (v ∷ vs) none new =
    let rest = go_together ds cs vs none new.1 in
    let all = go_together ds (c ∷ cs) (v ∷ vs) none new in
    let there = new_there (all_put ds cs) c.0 c.1 v rest.0 (over_all ds cs vs c.0 c.1 v new.1 new.0) in (
      can_be_put ds cs vs none new.1,
      (subst (λ (x : Module). HasPlaces x v) rest.1 there, subst IsTypedModule all.1 (module_typed (all_put ds (c ∷ cs)) all.0)),
    )

-- ---- the module with what is new

pub as_many_declared : (ds : List Decl) (m : Module) → IsModuleOf ds m → length m.texts ≡ length (erased ds)
as_many_declared ds m is = ap (λ (x : Module). length x.texts) ((program_of ds m (sym is)).1) ∙ as_many_texts (erased ds)

module _ (ds : List Decl) (rs : List Replacement) (vs : List Revision) (m : Module) (is : IsModuleOf ds m) (h : AreRevisions ds rs vs) where
  before : m ≡ module_of (erased ds)
  before = (program_of ds m (sym is)).1

  none_before : fault_of (erased ds) ≡ None
  none_before = (program_of ds m (sym is)).0

  apart_before : fault_of (told_apart ds) ≡ None
  apart_before = no_fault (fault_of (told_apart ds)) (program_of ds m (sym is)).2

  reading_after : (erased (with_replacements ds rs) ≡ all_put (erased ds) (changes rs)) × (told_apart (with_replacements ds rs) ≡ all_put (told_apart ds) (changes rs))
  reading_after =
      let keep = readings_keep ds (changes rs) h.brought.revised in
      (ap erased (sym (puts_are ds rs)) ∙ keep.0, ap told_apart (sym (puts_are ds rs)) ∙ keep.1)

  none_after : fault_of (erased (with_replacements ds rs)) ≡ None
  none_after = ap fault_of reading_after.0 ∙ (go_together (erased ds) (changes rs) vs none_before h.brought.new).0

  apart_after : fault_of (told_apart (with_replacements ds rs)) ≡ None
  apart_after = ap fault_of reading_after.1 ∙ stay_faultless (told_apart ds) (changes rs) apart_before (all_apart ds (changes rs) h.brought.revised) h.apart

  after : all_revised m vs ≡ module_of (erased (with_replacements ds rs))
  after = ap (λ (x : Module). all_revised x vs) before ∙ sym ((go_together (erased ds) (changes rs) vs none_before h.brought.new).1) ∙ ap module_of (sym reading_after.0)

  typed_after : (n : Module) → n ≡ all_revised m vs → typing (with_replacements ds rs) ≡ typed n
  typed_after n same =
      faultless_is (with_replacements ds rs) none_after
      ∙ carriers_right (with_replacements ds rs) n (ap (λ o. option_map {U = ℕ × Place} (λ (p : ℕ × Fault). (p.0, p.1.at)) o) apart_after) (same ∙ after)

  pub each_put : CanBePut m vs
  each_put = subst (λ (x : Module). CanBePut x vs) (sym before) (can_be_put (erased ds) (changes rs) vs none_before h.brought.new)

  pub forward_after : AllGoForward (all_revised m vs)
  forward_after = subst AllGoForward (sym after) (goes_forward (erased (with_replacements ds rs)) none_after)

  as_many_after : length (all_revised m vs).texts ≡ length m.texts
  as_many_after =
      ap (λ (x : Module). length x.texts) after ∙ as_many_texts (erased (with_replacements ds rs)) ∙ ap length reading_after.0 ∙ as_many_put (erased ds) (changes rs) ∙ sym (as_many_declared ds m is)

  pub resolved_after : AreWrittenDecls 0 (with_replacements ds rs) → length m.texts < 2 ^ 64 → IsResolved (all_revised m vs)
  resolved_after written few = typed_resolved (with_replacements ds rs) (all_revised m vs) written (subst (λ n. n < 2 ^ 64) (sym as_many_after) few) (typed_after (all_revised m vs) refl)

  opens_after : (n : Module) → n ≡ all_revised m vs → program_large n ≡ None → IsModuleOf (with_replacements ds rs) n
  opens_after n same within = opens_so (with_replacements ds rs) n (typed_after n same) within

  -- by the result of building it and opening its goals
  pub is_opened : (workers : ℕ) (s : Board) (noted : List BoardCall) (t : Board) (noted' : List BoardCall) (turns : ℕ) (n : Module) (old new : List BuiltProc) (o : Option Told) → IfSome o (λ x. n ≡ all_revised m vs)
      → IfSome o (λ x. IsReopened workers s noted t noted' turns n old new (reply_view x)) → IfSome o (λ x. IsModuleOf (with_replacements ds rs) n)
  is_opened workers s noted t noted' turns n old new None same opened = tt
  is_opened workers s noted t noted' turns n old new (Some x) same opened = opens_after n same opened.within

-- ---- the declarations, the last first

placed_last : (ds : List Decl) (rs : List Replacement) (r : Replacement) → with_replacements ds (rs ++ r ∷ []) ≡ with_replacements (slice_set ds r.at r.decl) rs
placed_last ds [] r = refl
placed_last ds (q ∷ rs) r = ap (λ (es : List Decl). slice_set es q.at q.decl) (placed_last ds rs r)

there_last : (ds : List Decl) (rs : List Replacement) (r : Replacement) → AreThere ds (rs ++ r ∷ []) → (r.at < length ds) × AreThere (slice_set ds r.at r.decl) rs
there_last ds [] r h = (h.0, tt)
there_last ds (q ∷ rs) r h =
    let rest = there_last ds rs r h.1 in
    (rest.0, (subst (λ n. q.at < n) (sym (length-set ds r.at r.decl)) h.0, rest.1))

pub last_there : (ds : List Decl) (rs qs : List Replacement) (r : Replacement) → qs ≡ rs ++ r ∷ [] → AreThere ds qs → r.at < length ds
last_there ds rs qs r e h = (there_last ds rs r (subst (AreThere ds) e h)).0

pub others_there : (ds : List Decl) (rs qs : List Replacement) (r : Replacement) → qs ≡ rs ++ r ∷ [] → AreThere ds qs → AreThere (slice_set ds r.at r.decl) rs
others_there ds rs qs r e h = (there_last ds rs r (subst (AreThere ds) e h)).1

pub last_placed : (ds : List Decl) (rs qs : List Replacement) (r : Replacement) → qs ≡ rs ++ r ∷ [] → with_replacements ds qs ≡ with_replacements (slice_set ds r.at r.decl) rs
last_placed ds rs qs r e = ap (with_replacements ds) e ∙ placed_last ds rs r

-- ---- the program is open with what was built

-- so many are new
pub as_many_new : (workers : ℕ) (s : Board) (noted : List BoardCall) (t : Board) (noted' : List BoardCall) (turns : ℕ) (m : Module) (x : Reply) (n k : ℕ) → n ≡ k → IsOpened workers s noted t noted' turns n m x → IsOpened workers s noted t noted' turns k m x
as_many_new workers s noted t noted' turns m x n k same h = subst (λ (i : ℕ). IsOpened workers s noted t noted' turns i m x) same h

module _ (workers : ℕ) (s : Board) (noted : List BoardCall) (t : Board) (noted' : List BoardCall) (turns : ℕ) where
  pub stays_open : (ds : List Decl) (m : Module) (old : List BuiltProc) (p : Program) (x : Reply) → SourcesAreShort ds → AreWrittenDecls 0 ds → IsModuleOf ds m → IsReopened workers s noted t noted' turns m old p.procs x
      → IsOpen (record { decls = ds; typed = m }) p
  stays_open ds m old p x short written is r = record { short = short; written = written; is_module = is; built = r.are_built }

  -- by the procedures of the module before
  pub opened_by : (m n : Module) (old new : List BuiltProc) (x : Reply) → old ≡ built m → IsReopened workers s noted t noted' turns n old new x → IsOpened workers s noted t noted' turns (rebuilt (built m) n) n x
  opened_by m n old new x same r = subst (λ (bs : List BuiltProc). IsOpened workers s noted t noted' turns (rebuilt bs n) n x) same r.opened
