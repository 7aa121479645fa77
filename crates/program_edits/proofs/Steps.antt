-- One put, one name, one text at a time.
use Rattle.std.proofs.Common.{◌≡◌, ◌≢◌, ◌-◌, ◌^◌, ◌<◌, ◌≤◌, ℕ, zero, suc, ◌+◌, Bool, true, false, not, cond, List, [], ◌∷◌, ◌++◌, length, get_or, map, filter, find, drop, Some, None, Result, Ok, Err, ok_or, string_bytes, refl, sym, ap, ◌∙◌, subst, append_assoc, arith}
use Rattle.std.specs.List.{All, AllByRecursion}
use Rattle.std.specs.Borrow.{Bor}
use Rattle.bpl_ast.specs.Statement.{DeclBody, constant, function, axiom_of, variables, synonym, procedure, implementation, Decl, name_of, axioms_with}
use Rattle.bpl_grammar.specs.Judge.{syntax, deep, wide}
use Rattle.bpl_grammar.specs.Part.{rule, program}
use Rattle.bpl_grammar.specs.Fault.{Fault as Told, lexical, marked, HasFault}
use Rattle.bpl_grammar.specs.Programs.{SpellsProgram}
use Rattle.bpl_parse.specs.Program.{IsFaultOf}
use Rattle.bpl_parse.specs.declared.fault.Fault.{Fault}
use Rattle.bpl_parse.specs.declared.fault.Fault.TheVariants.{Lex, Syntax, Deep, Wide, Memory as Starved}
use Rattle.fault_text.specs.FaultView.{SourcesAreShort}
use Rattle.fault_text.proofs.InText.{sources_short}
use Rattle.request_text.specs.Request.{Put, Request}
use Rattle.request_text.specs.RequestView.{put_view}
use Rattle.request_text.specs.declared.request.Put.{Put as SeenPut}
use Rattle.bv_base.specs.Text.{is_among}
use Rattle.std.specs.Prelude.{IfErr, IsErrAnd}
use Rattle.std.proofs.lemmas.List.{at_drop_more, at_drop_all, append-nil}
use Rattle.program_edits.specs.Edited.{Texts, names, in_place, applied, unless_lacking, changed, Edited, edited, faulty, other_name, is_axiom, declares, the_one, put_as, and_then, numbered, renamed, opened, after_puts, puts_of, IsEdited}
use Rattle.program_edits.specs.Refusals.{IsTold, Tells, RefusedBy, TextsAreShort, texts_of, reading}
use Rattle.program_edits.specs.Seen.{decls_seen}
use Rattle.program_edits.specs.declared.fault.EditFault.{EditFault}
use Rattle.program_edits.specs.declared.fault.EditFault.TheVariants.{Memory}
use Rattle.program_edits.proofs.Readings.{reading_is}
use Rattle.program_edits.proofs.Keeps.{edits_keep}

-- want of memory refuses anything
pub memory_refuses : {A : Type 0} (r : Result A Edited) → RefusedBy r Memory
memory_refuses (Ok a) = refl
memory_refuses (Err e) = tt

-- ---- one put

pub is_the_one : (n : List ℕ) (d : Decl) → declares n d ≡ true → the_one n (d ∷ []) ≡ Some (record d { name = n })
is_the_one n d is = ap (λ b. cond b (Some (record d { name = n })) None) is

pub not_the_one : (n : List ℕ) (d : Decl) (fault : EditFault) → declares n d ≡ false → Tells fault (other_name n) → RefusedBy (ok_or (the_one n (d ∷ [])) (other_name n)) fault
not_the_one n d fault is tells =
    let none : the_one n (d ∷ []) ≡ None = ap (λ b. cond b (Some (record d { name = n })) None) is in
    rw none tells

none_of_many : (n : List ℕ) (ds : List Decl) → length ds ≢ 1 → the_one n ds ≡ None
none_of_many n [] more = refl
none_of_many n (d ∷ []) more = absurd (more refl)
none_of_many n (d ∷ e ∷ ds) more = refl

pub many_refused : (n : List ℕ) (ds : List Decl) (fault : EditFault) → length ds ≢ 1 → Tells fault (other_name n) → RefusedBy (ok_or (the_one n ds) (other_name n)) fault
many_refused n ds fault more tells = rw (none_of_many n ds more) tells

-- ---- a text

pub put_spelled : (p : Put) (ds : List Decl) (d : Decl) → SpellsProgram p.text ds → the_one p.name ds ≡ Some d → put_as p (reading p.text) ≡ Ok d
put_spelled p ds d spelled is = ap (put_as p) (reading_is p.text (Ok ds) spelled) ∙ ap (λ o. ok_or o (other_name p.name)) is

pub put_other : (p : Put) (ds : List Decl) (fault : EditFault) → SpellsProgram p.text ds → RefusedBy (ok_or (the_one p.name ds) (other_name p.name)) fault → RefusedBy (put_as p (reading p.text)) fault
put_other p ds fault spelled refused = rw (reading_is p.text (Ok ds) spelled) refused

-- the fault that the parser tells is the text's
pub told_fault : (text : List ℕ) (fault : Fault) → fault ≢ Starved → IsFaultOf text fault → (f : Told) × IsTold fault f × HasFault (rule program) text f
told_fault text (Lex at) some there = (lexical at, refl, there)
told_fault text (Syntax at) some there = (marked syntax at, refl, there)
told_fault text (Deep at) some there = (marked deep at, refl, there)
told_fault text (Wide at) some there = (marked wide at, refl, there)
told_fault text Starved some there = absurd (some refl)

pub put_faulty : (p : Put) (fault : Fault) (told : EditFault) → fault ≢ Starved → IsFaultOf p.text fault → ((f : Told) → IsTold fault f → Tells told (faulty (Some p.name) p.text f)) → RefusedBy (put_as p (reading p.text)) told
put_faulty p fault told some there tells =
    let one = told_fault p.text fault some there in
    rw (reading_is p.text (Err one.0) one.2) (tells one.0 one.1)

pub open_spelled : (text : List ℕ) (ds : List Decl) → SpellsProgram text ds → opened text (reading text) ≡ edited ds
open_spelled text ds spelled = ap (opened text) (reading_is text (Ok ds) spelled)

pub open_faulty : (text : List ℕ) (fault : Fault) (told : EditFault) → fault ≢ Starved → IsFaultOf text fault → ((f : Told) → IsTold fault f → Tells told (faulty None text f)) → Tells told (opened text (reading text))
open_faulty text fault told some there tells =
    let one = told_fault text fault some there in
    rw (reading_is text (Err one.0) one.2) (tells one.0 one.1)

-- ---- puts, one after another

-- these stand before what the others are
abbrev pub behind : List Decl → Result (List Decl) Edited → Result (List Decl) Edited
behind found (Err e) = Err e
behind found (Ok ds) = Ok (found ++ ds)

pub behind_none : (r : Result (List Decl) Edited) → behind [] r ≡ r
behind_none (Err e) = refl
behind_none (Ok ds) = refl

pub behind_one : (found : List Decl) (d : Decl) (r : Result (List Decl) Edited) → behind found (and_then (Ok d) r) ≡ behind (found ++ d ∷ []) r
behind_one found d (Err e) = refl
behind_one found d (Ok ds) = ap Ok (sym (append_assoc found (d ∷ []) ds))

-- the first refusal is that of all
pub first_refused : (found : List Decl) (put : Result Decl Edited) (rest : Result (List Decl) Edited) (fault : EditFault) → RefusedBy put fault → RefusedBy (behind found (and_then put rest)) fault
first_refused found (Err e) rest fault refused = refused
first_refused found (Ok d) rest fault refused = rw refused (memory_refuses (behind found (and_then (Ok d) rest)))

-- the puts from this place on, behind the declarations that are found, give the whole
module _ (found : List Decl) (puts : List SeenPut) (i : ℕ) (whole : Result (List Decl) Edited) (so_far : behind found (puts_of reading (map put_view (drop i puts))) ≡ whole) where
  module _ (p : SeenPut) (within : i < length puts) (is : p ≡ get_or puts i p) where
    put_and_rest : behind found (and_then (put_as (put_view p) (reading (string_bytes p.text))) (puts_of reading (map put_view (drop (i + 1) puts)))) ≡ whole
    put_and_rest = (λ j. behind found (puts_of reading (map put_view (is j ∷ drop (i + 1) puts)))) ∙ (sym (at_drop_more (λ ps. behind found (puts_of reading (map put_view ps))) puts i p within) ∙ so_far)

    pub put_next : (more : List Decl) (d : Decl) → more ≡ found ++ d ∷ [] → put_as (put_view p) (reading (string_bytes p.text)) ≡ Ok d → behind more (puts_of reading (map put_view (drop (i + 1) puts))) ≡ whole
    put_next more d pushed ok =
        (λ j. behind (pushed j) (puts_of reading (map put_view (drop (i + 1) puts))))
        ∙ (sym (behind_one found d (puts_of reading (map put_view (drop (i + 1) puts)))) ∙ ((λ j. behind found (and_then (sym ok j) (puts_of reading (map put_view (drop (i + 1) puts))))) ∙ put_and_rest))

    pub put_stops : {A : Type 0} (r : Result A EditFault) (fault : EditFault) → IsErrAnd r (λ e. e ≡ fault) → RefusedBy (put_as (put_view p) (reading (string_bytes p.text))) fault → IfErr r (RefusedBy whole)
    put_stops (Ok a) fault is_err refused = absurd is_err
    put_stops (Err e) fault is_err refused =
        subst (RefusedBy whole) (sym is_err) (subst (λ (given : Result (List Decl) Edited). RefusedBy given fault) put_and_rest (first_refused found (put_as (put_view p) (reading (string_bytes p.text))) (puts_of reading (map put_view (drop (i + 1) puts))) fault refused))

  pub put_all : length puts ≤ i → whole ≡ Ok found
  put_all past = sym so_far ∙ (at_drop_all (λ ps. behind found (puts_of reading (map put_view ps))) puts i past ∙ ap Ok (append-nil found))

pub after_refused : (old : List Decl) (r : Result (List Decl) Edited) (drops : List (List ℕ)) (fault : EditFault) → RefusedBy r fault → Tells fault (after_puts old r drops)
after_refused old (Err e) drops fault refused = refused
after_refused old (Ok puts) drops fault refused = rw refused tt

-- ---- what a list of references shows

pub seen_behind : (ds : List (Bor Decl)) (d : Bor Decl) → decls_seen (ds ++ d ∷ []) ≡ decls_seen ds ++ d.now ∷ []
seen_behind [] d = refl
seen_behind (e ∷ ds) d = ap (λ es. e.now ∷ es) (seen_behind ds d)

-- ---- sources stay short

abbrev IsShort : Decl → Type 0
IsShort d = length d.source < 2 ^ 32 - 1

renamed_short : (k : ℕ) (d : Decl) → IsShort d → IsShort (renamed k d)
renamed_short k d h = by (is_axiom d.body)
  where
    by : (b : Bool) → IsShort (cond b (record d { name = name_of k d.body }) d)
    by true = h
    by false = h

all_by_index : {A : Type 0} (P : A → Type 0) (xs : List A) → AllByRecursion P xs → All P xs
all_by_index P [] h i d below = absurd (omega arith)
all_by_index P (x ∷ xs) h zero d below = h.0
all_by_index P (x ∷ xs) h (suc i) d below = all_by_index P xs h.1 i d (omega arith)

by_recursion : {A : Type 0} (P : A → Type 0) (xs : List A) → All P xs → AllByRecursion P xs
by_recursion P [] h = tt
by_recursion P (x ∷ xs) h = (h 0 x (omega arith), by_recursion P xs (λ i d below. h (suc i) d (omega arith)))

-- the declarations of a short text are short
text_short : (text : List ℕ) → length text < 2 ^ 32 - 1 → (ds : List Decl) → SpellsProgram text ds → AllByRecursion IsShort ds
text_short text fits ds spelled = each ds (sources_short text ds spelled)
  where
    each : (xs : List Decl) → AllByRecursion (λ (d : Decl). length d.source ≤ length text) xs → AllByRecursion IsShort xs
    each [] h = tt
    each (x ∷ xs) h = (omega (arith, fits, h.0), each xs h.1)

texts_short : (texts : List (List ℕ)) → AllByRecursion (λ text. length text < 2 ^ 32 - 1) texts → AllByRecursion (λ text. (ds : List Decl) → SpellsProgram text ds → AllByRecursion IsShort ds) texts
texts_short [] h = tt
texts_short (text ∷ texts) h = (text_short text h.0, texts_short texts h.1)

pub sources_stay_short : (old new : List Decl) (r : Request) → IsEdited old r (edited new) → TextsAreShort r → SourcesAreShort old → SourcesAreShort new
sources_stay_short old new r is short h =
    all_by_index IsShort new (edits_keep IsShort renamed_short old new r is (texts_short (texts_of r) (by_recursion (λ text. length text < 2 ^ 32 - 1) (texts_of r) short)) (by_recursion IsShort old h))

-- ---- numbers of axioms

pub axioms_within : (k : ℕ) (b : DeclBody) → axioms_with k b ≤ k + 1
axioms_within k (axiom_of x) = omega arith
axioms_within k (constant u ns t) = omega arith
axioms_within k (function n ps ins t v) = omega arith
axioms_within k (variables gs) = omega arith
axioms_within k (synonym n t) = omega arith
axioms_within k (procedure n ps s ss v) = omega arith
axioms_within k (implementation n ps s v) = omega arith

pub numbered_step : (found : List Decl) (axioms : ℕ) (ds : List (Bor Decl)) (i : ℕ) (r : Bor Decl) (d : Decl) (all : List Decl) → i < length ds → r ≡ get_or ds i r → d ≡ renamed axioms r.now
    → found ++ numbered axioms (decls_seen (drop i ds)) ≡ all → (found ++ d ∷ []) ++ numbered (axioms_with axioms (r.now).body) (decls_seen (drop (i + 1) ds)) ≡ all
numbered_step found axioms ds i r d all below is named so_far =
    let next : decls_seen (drop i ds) ≡ r.now ∷ decls_seen (drop (i + 1) ds) = at_drop_more decls_seen ds i r below ∙ ap (λ (b : Bor Decl). b.now ∷ decls_seen (drop (i + 1) ds)) (sym is) in
    append_assoc found (d ∷ []) (numbered (axioms_with axioms (r.now).body) (decls_seen (drop (i + 1) ds)))
    ∙ ap (λ (x : Decl). found ++ x ∷ numbered (axioms_with axioms (r.now).body) (decls_seen (drop (i + 1) ds))) named
    ∙ sym (ap (λ (xs : List Decl). found ++ numbered axioms xs) next) ∙ so_far

-- ---- all of it

pub applied_is : (shown chosen all : List (Bor Decl)) (present dropped drops : List (List ℕ)) (old puts : List Decl) → shown ≡ all
    → decls_seen all ≡ decls_seen chosen ++ filter (λ p. not (is_among present p.name)) puts
    → decls_seen chosen ≡ map (in_place puts) (filter (λ d. not (is_among dropped d.name)) old) → dropped ≡ drops → present ≡ names old → decls_seen shown ≡ applied old puts drops
applied_is shown chosen all present dropped drops old puts same added kept is named =
    ap decls_seen same ∙ added ∙ ap (λ xs. xs ++ filter (λ p. not (is_among present p.name)) puts) kept
    ∙ ap (λ ns. map (in_place puts) (filter (λ d. not (is_among ns d.name)) old) ++ filter (λ p. not (is_among present p.name)) puts) is
    ∙ ap (λ ns. map (in_place puts) (filter (λ d. not (is_among drops d.name)) old) ++ filter (λ p. not (is_among ns p.name)) puts) named

pub changed_none : (s : Texts) (old : List Decl) (puts : List Put) (drops present : List (List ℕ)) → None ≡ find (λ n. not (is_among present n)) drops → present ≡ names old → changed s old puts drops ≡ after_puts old (puts_of s puts) drops
changed_none s old puts drops present none named =
    ap (λ o. unless_lacking s o old puts drops) (sym (subst (λ (ns : List (List ℕ)). None ≡ find (λ n. not (is_among ns n)) drops) named none))

-- ---- one put, by what the code sees of it

pub put_ok : (p : Put) (text name : List ℕ) (ds : List Decl) (d : Decl) → text ≡ p.text → name ≡ p.name → SpellsProgram text ds → the_one name ds ≡ Some d → put_as p (reading p.text) ≡ Ok d
put_ok p text name ds d t n s is = put_spelled p ds d (subst (λ (xs : List ℕ). SpellsProgram xs ds) t s) (subst (λ (xs : List ℕ). the_one xs ds ≡ Some d) n is)

pub put_err : (p : Put) (text name : List ℕ) (ds : List Decl) (fault : EditFault) → text ≡ p.text → name ≡ p.name → SpellsProgram text ds → RefusedBy (ok_or (the_one name ds) (other_name name)) fault → RefusedBy (put_as p (reading p.text)) fault
put_err p text name ds fault t n s refused =
    put_other p ds fault (subst (λ (xs : List ℕ). SpellsProgram xs ds) t s) (subst (λ (xs : List ℕ). RefusedBy (ok_or (the_one xs ds) (other_name xs)) fault) n refused)

pub texts_each : (ps : List SeenPut) → All (λ text. length text < 2 ^ 32 - 1) (map (λ p. p.text) (map put_view ps)) → All (λ (p : SeenPut). length (string_bytes p.text) < 2 ^ 32 - 1) ps
texts_each [] h k d below = absurd (omega arith)
texts_each (p ∷ ps) h zero d below = h 0 [] (omega arith)
texts_each (p ∷ ps) h (suc k) d below = texts_each ps (λ j e less. h (suc j) e (omega arith)) k d (omega arith)
