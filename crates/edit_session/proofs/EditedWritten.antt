-- After an edit each declaration is such as tokens spell, with a name of its own, where those before are.
use Rattle.std.specs.Prelude.{◌≡◌, ℕ, Bool, true, false, cond, not, List, [], ◌∷◌, find, Option, Some, None, Result, Ok, Err}
use Rattle.std.specs.List.{AllByRecursion}
use Rattle.std.proofs.Common.{refl, ap, sym, ◌∙◌, subst}
use Rattle.bpl_ast.specs.Statement.{DeclBody, constant, function, axiom_of, variables, synonym, procedure, implementation, Decl, name_of, axioms_with}
use Rattle.bpl_grammar.specs.Fault.{Fault}
use Rattle.bpl_grammar.specs.Programs.{SpellsProgram}
use Rattle.bv_base.specs.Text.{is_among}
use Rattle.canonical_text.specs.WrittenStatement.{IsWrittenDecl}
use Rattle.canonical_text.specs.RoundTrip.{AreWrittenDecls}
use Rattle.canonical_text.proofs.RoundTrips.{programs_written}
use Rattle.request_text.specs.Request.{Put, Request, open_text, edit, status, report, sums, proofs, quit}
use Rattle.program_edits.specs.Edited.{Edited, edited, IsReadAs, Texts, TellsTexts, is_axiom, renamed, numbered, names, applied, after_puts, opened, puts_of, unless_lacking, edited_by, IsEdited}
use Rattle.program_edits.specs.Refusals.{texts_of}
use Rattle.program_edits.proofs.Keeps.{puts_refuse, edits_keep}

-- it is spelled so, and has its own name if it is no axiom
abbrev pub IsNamed : Decl → Type 0
IsNamed d = IsWrittenDecl d.body × (is_axiom d.body ≡ false → d.name ≡ name_of 0 d.body)

named : (k : ℕ) (b : DeclBody) (n : List ℕ) → n ≡ name_of k b → is_axiom b ≡ false → n ≡ name_of 0 b
named k (constant u ns s) n e f = e
named k (function m ps ins r x) n e f = e
named k (axiom_of x) n e f = absurd (cc)
named k (variables gs) n e f = e
named k (synonym m s) n e f = e
named k (procedure m ps s ss b) n e f = e
named k (implementation m ps s b) n e f = e

each_named : (k : ℕ) (ds : List Decl) → AreWrittenDecls k ds → AllByRecursion IsNamed ds
each_named k [] w = tt
each_named k (d ∷ ds) w = ((w.1, λ f. named k d.body d.name w.0 f), each_named (axioms_with k d.body) ds w.2)

-- the same with this body, under the name of an axiom if it is one
stays_named : (k : ℕ) (d : Decl) (b : DeclBody) → IsNamed (record d { body = b }) → IsNamed (renamed k (record d { body = b }))
stays_named k d (constant u ns s) h = h
stays_named k d (function m ps ins r x) h = h
stays_named k d (axiom_of x) h = (h.0, λ f. absurd (cc))
stays_named k d (variables gs) h = h
stays_named k d (synonym m s) h = h
stays_named k d (procedure m ps s ss b) h = h
stays_named k d (implementation m ps s b) h = h

first_written : (k : ℕ) (d : Decl) (b : DeclBody) (rest : List Decl) → IsNamed (renamed k (record d { body = b })) → AreWrittenDecls (axioms_with k b) rest → AreWrittenDecls k (renamed k (record d { body = b }) ∷ rest)
first_written k d (constant u ns s) rest h w = (h.1 refl, h.0, w)
first_written k d (function m ps ins r x) rest h w = (h.1 refl, h.0, w)
first_written k d (axiom_of x) rest h w = (refl, h.0, w)
first_written k d (variables gs) rest h w = (h.1 refl, h.0, w)
first_written k d (synonym m s) rest h w = (h.1 refl, h.0, w)
first_written k d (procedure m ps s ss b) rest h w = (h.1 refl, h.0, w)
first_written k d (implementation m ps s b) rest h w = (h.1 refl, h.0, w)

numbered_written : (k : ℕ) (ds : List Decl) → AllByRecursion IsNamed (numbered k ds) → AreWrittenDecls k (numbered k ds)
numbered_written k [] h = tt
numbered_written k (d ∷ ds) h = first_written k d d.body (numbered (axioms_with k d.body) ds) h.0 (numbered_written (axioms_with k d.body) ds h.1)

of_texts : (texts : List (List ℕ)) → AllByRecursion (λ text. (ds : List Decl) → SpellsProgram text ds → AllByRecursion IsNamed ds) texts
of_texts [] = tt
of_texts (text ∷ texts) = (λ ds s. each_named 0 ds (programs_written text ds s), of_texts texts)

some_is : (e f : Edited) → Some e ≡ Some f → e ≡ f
some_is e f h = cc

after_written : (s : Texts) (old : List Decl) (ps : List Put) (drops : List (List ℕ)) (r : Result (List Decl) Edited) (new : List Decl) → puts_of s ps ≡ r → after_puts old r drops ≡ edited new → AllByRecursion IsNamed new → AreWrittenDecls 0 new
after_written s old ps drops (Err e) new are is h = absurd (puts_refuse s ps new (are ∙ ap Err is))
after_written s old ps drops (Ok puts) new are is h =
    let same : numbered 0 (applied old puts drops) ≡ new = cc in
    subst (AreWrittenDecls 0) same (numbered_written 0 (applied old puts drops) (subst (AllByRecursion IsNamed) (sym same) h))

changed_written : (s : Texts) (old : List Decl) (ps : List Put) (drops : List (List ℕ)) (o : Option (List ℕ)) (new : List Decl) → unless_lacking s o old ps drops ≡ edited new → AllByRecursion IsNamed new → AreWrittenDecls 0 new
changed_written s old ps drops (Some n) new is h = absurd (cc)
changed_written s old ps drops None new is h = after_written s old ps drops (puts_of s ps) new refl is h

opened_written : (s : Texts) → TellsTexts s → (text : List ℕ) (r : Result (List Decl) Fault) (new : List Decl) → s text ≡ r → opened text r ≡ edited new → AreWrittenDecls 0 new
opened_written s tells text (Err f) new are is = absurd (cc)
opened_written s tells text (Ok ds) new are is =
    let same : ds ≡ new = cc in
    programs_written text new (subst (SpellsProgram text) same (subst (IsReadAs text) are (tells text)))

by_request : (s : Texts) → TellsTexts s → (old new : List Decl) (r : Request) → edited_by s old r ≡ Some (edited new) → AllByRecursion IsNamed new → AreWrittenDecls 0 new
by_request s tells old new (open_text text) is h = opened_written s tells text (s text) new refl (some_is (opened text (s text)) (edited new) is)
by_request s tells old new (edit ps drops) is h =
    let o = find (λ n. not (is_among (names old) n)) drops in
    changed_written s old ps drops o new (some_is (unless_lacking s o old ps drops) (edited new) is) h
by_request s tells old new status is h = absurd (cc)
by_request s tells old new report is h = absurd (cc)
by_request s tells old new sums is h = absurd (cc)
by_request s tells old new proofs is h = absurd (cc)
by_request s tells old new quit is h = absurd (cc)

pub edited_written : (old new : List Decl) (r : Request) → IsEdited old r (edited new) → AreWrittenDecls 0 old → AreWrittenDecls 0 new
edited_written old new r e w = by_request e.0 e.1 old new r e.2 (edits_keep IsNamed (λ k d h. stays_named k d d.body h) old new r e (of_texts (texts_of r)) (each_named 0 old w))

-- ---- axioms have their numbers

same_named : (k : ℕ) (d : Decl) → d.name ≡ name_of k d.body → renamed k d ≡ d
same_named k d e = by_kind (is_axiom d.body)
  where
    by_kind : (b : Bool) → cond b (record d { name = name_of k d.body }) d ≡ d
    by_kind true = ap (λ (n : List ℕ). record d { name = n }) (sym e)
    by_kind false = refl

pub numbers_stay : (k : ℕ) (ds : List Decl) → AreWrittenDecls k ds → numbered k ds ≡ ds
numbers_stay k [] w = refl
numbers_stay k (d ∷ ds) w = λ i. same_named k d w.0 i ∷ numbers_stay (axioms_with k d.body) ds w.2 i
