-- What holds of the old declarations, and of those that the request's texts spell, holds of the new ones.
use Rattle.std.proofs.Common.{◌≡◌, ◌⊎◌, inl, inr, ℕ, zero, suc, Bool, true, false, not, cond, List, [], ◌∷◌, ◌++◌, map, filter, find, Option, Some, None, Result, Ok, Err, ok_or, bytes_eq, refl, sym, ap, ◌∙◌, subst}
use Rattle.std.specs.Prelude.{slice_get}
use Rattle.std.specs.List.{AllByRecursion}
use Rattle.std.proofs.lemmas.Slice.Eq.{bytes_eq-Decides}
use Rattle.bpl_ast.specs.Statement.{Decl, name_of, axioms_with}
use Rattle.bpl_grammar.specs.Fault.{Fault}
use Rattle.bpl_grammar.specs.Programs.{SpellsProgram}
use Rattle.bv_base.specs.Text.{is_among}
use Rattle.bpl_scopes.specs.Positions.{first_at, or_other, beside}
use Rattle.request_text.specs.Request.{Put, Request, open_text, edit, status, report, sums, proofs, quit}
use Rattle.program_edits.specs.Edited.{Edited, edited, other_name, IsReadAs, Texts, TellsTexts, is_axiom, is_axiom_name, declares, the_one, put_as, and_then, renamed, numbered, names, in_place, applied, after_puts, opened, puts_of, unless_lacking, edited_by, IsEdited}
use Rattle.program_edits.specs.Refusals.{texts_of}

-- what a list keeps under a test, and behind another
filter_by : {A : Type 0} (Q : A → Type 0) (b : Bool) (x : A) (all : List A) → Q x → AllByRecursion Q all → AllByRecursion Q (cond b (x ∷ all) all)
filter_by Q true x all h k = (h, k)
filter_by Q false x all h k = k

filter_keeps : {A : Type 0} (Q : A → Type 0) (test : A → Bool) (xs : List A) → AllByRecursion Q xs → AllByRecursion Q (filter test xs)
filter_keeps Q test [] h = tt
filter_keeps Q test (x ∷ xs) h = filter_by Q (test x) x (filter test xs) h.0 (filter_keeps Q test xs h.1)

append_keeps : {A : Type 0} (Q : A → Type 0) (xs ys : List A) → AllByRecursion Q xs → AllByRecursion Q ys → AllByRecursion Q (xs ++ ys)
append_keeps Q [] ys h k = k
append_keeps Q (x ∷ xs) ys h k = (h.0, append_keeps Q xs ys h.1 k)

map_keeps : {A B : Type 0} (P : A → Type 0) (Q : B → Type 0) (f : A → B) → ((x : A) → P x → Q (f x)) → (xs : List A) → AllByRecursion P xs → AllByRecursion Q (map f xs)
map_keeps P Q f to [] h = tt
map_keeps P Q f to (x ∷ xs) h = (to x h.0, map_keeps P Q f to xs h.1)

found_keeps : {A : Type 0} (Q : A → Type 0) (d : A) (xs : List A) (i : ℕ) → Q d → AllByRecursion Q xs → Q (or_other (slice_get xs i) d)
found_keeps Q d [] i h all = h
found_keeps Q d (x ∷ xs) zero h all = all.0
found_keeps Q d (x ∷ xs) (suc i) h all = found_keeps Q d xs i h all.1

beside_keeps : {A : Type 0} (Q : A → Type 0) (d : A) (xs : List A) (o : Option ℕ) → Q d → AllByRecursion Q xs → Q (beside d xs o)
beside_keeps Q d xs None h all = h
beside_keeps Q d xs (Some i) h all = found_keeps Q d xs i h all

some_is : {A : Type 0} {x y : A} → ◌≡◌ {A = Option A} (Some x) (Some y) → x ≡ y
some_is p = cc

-- a refusal is no list of declarations
then_err : (r : Result Decl Edited) (rest : Result (List Decl) Edited) (e : Edited) → and_then r rest ≡ Err e → (r ≡ Err e) ⊎ (rest ≡ Err e)
then_err (Err f) rest e is = inl cc
then_err (Ok d) (Err f) e is = inr cc
then_err (Ok d) (Ok ds) e is = absurd (cc)

or_refuses : (o : Option Decl) (n : List ℕ) (new : List Decl) → ok_or o (other_name n) ≡ Err (edited new) → ⊥
or_refuses None n new is = cc
or_refuses (Some d) n new is = cc

put_refuses : (p : Put) (r : Result (List Decl) Fault) (new : List Decl) → put_as p r ≡ Err (edited new) → ⊥
put_refuses p (Err f) new is = cc
put_refuses p (Ok ds) new is = or_refuses (the_one p.name ds) p.name new is

neither : {A B : Type 0} → A ⊎ B → (A → ⊥) → (B → ⊥) → ⊥
neither (inl a) f g = f a
neither (inr b) f g = g b

pub puts_refuse : (s : Texts) (ps : List Put) (new : List Decl) → puts_of s ps ≡ Err (edited new) → ⊥
puts_refuse s [] new is = cc
puts_refuse s (p ∷ ps) new is =
    neither (then_err (put_as p (s p.text)) (puts_of s ps) (edited new) is) (λ h. put_refuses p (s p.text) new h) (λ h. puts_refuse s ps new h)

module _ (P : Decl → Type 0) (stable : (k : ℕ) (d : Decl) → P d → P (renamed k d)) where
  -- behind any number of axioms
  abbrev Anywhere : Decl → Type 0
  Anywhere d = (k : ℕ) → P (renamed k d)

  numbered_keeps : (k : ℕ) (ds : List Decl) → AllByRecursion Anywhere ds → AllByRecursion P (numbered k ds)
  numbered_keeps k [] h = tt
  numbered_keeps k (d ∷ ds) h = (h.0 k, numbered_keeps (axioms_with k d.body) ds h.1)

  -- an axiom under another name is the same axiom, and no other declaration is under another name
  named_keeps : (b : Bool) (n : List ℕ) (d : Decl) (k : ℕ) → cond b (is_axiom_name n) (bytes_eq n d.name) ≡ true → P (cond b (record d { name = name_of k d.body }) d)
      → P (cond b (record (record d { name = n }) { name = name_of k d.body }) (record d { name = n }))
  named_keeps true n d k is h = h
  named_keeps false n d k is h =
      let same : n ≡ d.name = (bytes_eq-Decides n d.name).0 is in
      subst (λ (m : List ℕ). P (record d { name = m })) (sym same) h

  one_keeps : (n : List ℕ) (ds : List Decl) (d : Decl) → AllByRecursion P ds → the_one n ds ≡ Some d → Anywhere d
  one_keeps n [] d h is = absurd (cc)
  one_keeps n (x ∷ []) d h is = by (declares n x) refl is
    where
      by : (b : Bool) → declares n x ≡ b → ◌≡◌ {A = Option Decl} (cond b (Some (record x { name = n })) None) (Some d) → Anywhere d
      by true e f =
          let same : record x { name = n } ≡ d = cc in
          subst Anywhere same (λ k. named_keeps (is_axiom x.body) n x k e (stable k x h.0))
      by false e f = absurd (cc)
  one_keeps n (x ∷ y ∷ ds) d h is = absurd (cc)

  ok_is : (o : Option Decl) (e : Edited) (d : Decl) → ok_or o e ≡ Ok d → o ≡ Some d
  ok_is None e d is = absurd (cc)
  ok_is (Some x) e d is = cc

  put_keeps : (p : Put) (r : Result (List Decl) Fault) (d : Decl) → ((ds : List Decl) → r ≡ Ok ds → AllByRecursion P ds) → put_as p r ≡ Ok d → Anywhere d
  put_keeps p (Err f) d h is = absurd (cc)
  put_keeps p (Ok ds) d h is = one_keeps p.name ds d (h ds refl) (ok_is (the_one p.name ds) (other_name p.name) d is)

  -- what holds of what each of these texts spells
  abbrev pub HoldsOfTexts : List (List ℕ) → Type 0
  HoldsOfTexts texts = AllByRecursion (λ text. (ds : List Decl) → SpellsProgram text ds → AllByRecursion P ds) texts

  spelled_keeps : (s : Texts) → TellsTexts s → (text : List ℕ) → ((ds : List Decl) → SpellsProgram text ds → AllByRecursion P ds) → (ds : List Decl) → s text ≡ Ok ds → AllByRecursion P ds
  spelled_keeps s tells text h ds is = h ds (subst (IsReadAs text) is (tells text))

  -- both of a pair of results
  both_ok : (r : Result Decl Edited) (rest : Result (List Decl) Edited) (ds : List Decl) → and_then r rest ≡ Ok ds
      → (d : Decl) × (es : List Decl) × (r ≡ Ok d) × (rest ≡ Ok es) × (ds ≡ d ∷ es)
  both_ok (Err e) rest ds is = absurd (cc)
  both_ok (Ok d) (Err e) ds is = absurd (cc)
  both_ok (Ok d) (Ok es) ds is = (d, es, refl, refl, cc)

  puts_keep : (s : Texts) → TellsTexts s → (ps : List Put) (ds : List Decl) → HoldsOfTexts (map (λ p. p.text) ps) → puts_of s ps ≡ Ok ds → AllByRecursion Anywhere ds
  puts_keep s tells [] ds h is = let none : ds ≡ [] = cc in rw none tt
  puts_keep s tells (p ∷ ps) ds h is =
      let both = both_ok (put_as p (s p.text)) (puts_of s ps) ds is in
      rw (both.4) (put_keeps p (s p.text) both.0 (spelled_keeps s tells p.text h.0) both.2, puts_keep s tells ps both.1 h.1 both.3)

  anywhere_keep : (ds : List Decl) → AllByRecursion P ds → AllByRecursion Anywhere ds
  anywhere_keep [] h = tt
  anywhere_keep (d ∷ ds) h = (λ k. stable k d h.0, anywhere_keep ds h.1)

  applied_keep : (old puts : List Decl) (drops : List (List ℕ)) → AllByRecursion P old → AllByRecursion Anywhere puts → AllByRecursion P (numbered 0 (applied old puts drops))
  applied_keep old puts drops h k =
      let kept = filter_keeps Anywhere (λ d. not (is_among drops d.name)) old (anywhere_keep old h) in
      let placed = map_keeps Anywhere Anywhere (in_place puts) (λ d q. beside_keeps Anywhere d puts (first_at d.name (names puts)) q k) (filter (λ d. not (is_among drops d.name)) old) kept in
      numbered_keeps 0 (applied old puts drops) (append_keeps Anywhere _ _ placed (filter_keeps Anywhere (λ p. not (is_among (names old) p.name)) puts k))

  after_keeps : (s : Texts) → TellsTexts s → (old : List Decl) (ps : List Put) (drops : List (List ℕ)) (r : Result (List Decl) Edited) (new : List Decl) → puts_of s ps ≡ r
      → HoldsOfTexts (map (λ p. p.text) ps) → AllByRecursion P old → after_puts old r drops ≡ edited new → AllByRecursion P new
  after_keeps s tells old ps drops (Err e) new are h k is = absurd (puts_refuse s ps new (are ∙ ap Err is))
  after_keeps s tells old ps drops (Ok puts) new are h k is =
      let same : numbered 0 (applied old puts drops) ≡ new = cc in
      subst (AllByRecursion P) same (applied_keep old puts drops k (puts_keep s tells ps puts h are))

  changed_keeps : (s : Texts) → TellsTexts s → (old : List Decl) (ps : List Put) (drops : List (List ℕ)) (o : Option (List ℕ)) (new : List Decl)
      → HoldsOfTexts (map (λ p. p.text) ps) → AllByRecursion P old → unless_lacking s o old ps drops ≡ edited new → AllByRecursion P new
  changed_keeps s tells old ps drops (Some n) new h k is = absurd (cc)
  changed_keeps s tells old ps drops None new h k is = after_keeps s tells old ps drops (puts_of s ps) new refl h k is

  opened_keeps : (text : List ℕ) (r : Result (List Decl) Fault) (new : List Decl) → ((ds : List Decl) → r ≡ Ok ds → AllByRecursion P ds) → opened text r ≡ edited new → AllByRecursion P new
  opened_keeps text (Err f) new h is = absurd (cc)
  opened_keeps text (Ok ds) new h is = let same : ds ≡ new = cc in subst (AllByRecursion P) same (h ds refl)

  edited_keeps : (s : Texts) → TellsTexts s → (old new : List Decl) (r : Request) → edited_by s old r ≡ Some (edited new) → HoldsOfTexts (texts_of r) → AllByRecursion P old → AllByRecursion P new
  edited_keeps s tells old new (open_text text) is h k = opened_keeps text (s text) new (spelled_keeps s tells text h.0) (some_is is)
  edited_keeps s tells old new (edit ps drops) is h k = changed_keeps s tells old ps drops (find (λ n. not (is_among (names old) n)) drops) new h k (some_is is)
  edited_keeps s tells old new status is h k = absurd (cc)
  edited_keeps s tells old new report is h k = absurd (cc)
  edited_keeps s tells old new sums is h k = absurd (cc)
  edited_keeps s tells old new proofs is h k = absurd (cc)
  edited_keeps s tells old new quit is h k = absurd (cc)

  pub edits_keep : (old new : List Decl) (r : Request) → IsEdited old r (edited new) → HoldsOfTexts (texts_of r) → AllByRecursion P old → AllByRecursion P new
  edits_keep old new r (s, tells, is) h k = edited_keeps s tells old new r is h k
