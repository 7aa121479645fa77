-- Puts whose names are those of declarations, before their texts are read and after.
use Rattle.std.proofs.Common.{◌≡◌, ◌∙◌, ℕ, Bool, true, false, cond, ◌&&◌, List, [], ◌∷◌, map, Option, Some, None, option_map, is_some, Result, Ok, Err, ok_or, refl, sym, ap, subst}
use Rattle.bpl_ast.specs.Statement.{Decl}
use Rattle.bpl_grammar.specs.Fault.{Fault}
use Rattle.request_text.specs.Request.{Put, Request, edit}
use Rattle.program_edits.specs.Edited.{Edited, other_name, Texts, declares, the_one, put_as, and_then, puts_of, after_puts, changed, edited_by}
use Rattle.program_edits.specs.Refusals.{Tells, RefusedBy, reading}
use Rattle.program_edits.specs.Replaced.{is_misnamed, only_place, are_named, unless_misnamed, plain, placed, with_all, all_placed, plain_puts}
use Rattle.program_edits.specs.declared.fault.EditFault.{EditFault}
use Rattle.program_edits.specs.declared.replaced.Replacement.{Replacement}
use Rattle.program_edits.proofs.Steps.{after_refused}

-- what is put in has the put's name
has_name : (n : List ℕ) (ds : List Decl) (d : Decl) → the_one n ds ≡ Some d → d.name ≡ n
has_name n [] d is = absurd (cc)
has_name n (e ∷ []) d is = by (declares n e) is
  where
    by : (b : Bool) → cond b (Some (record e { name = n })) None ≡ Some d → d.name ≡ n
    by true h = let same : record e { name = n } ≡ d = cc in ap (λ (x : Decl). x.name) (sym same)
    by false h = absurd (cc)
has_name n (e ∷ f ∷ ds) d is = absurd (cc)

put_name : (p : Put) (r : Result (List Decl) Fault) (d : Decl) → put_as p r ≡ Ok d → d.name ≡ p.name
put_name p (Err f) d is = absurd (cc)
put_name p (Ok ds) d is = by (the_one p.name ds) refl is
  where
    by : (o : Option Decl) → the_one p.name ds ≡ o → ok_or o (other_name p.name) ≡ Ok d → d.name ≡ p.name
    by None e h = absurd (cc)
    by (Some x) e h = let same : x ≡ d = cc in has_name p.name ds d (e ∙ ap Some same)

-- one that has no place
unplaced : (old : List Decl) (p : Put) (r : Result Decl Edited) → ((d : Decl) → r ≡ Ok d → d.name ≡ p.name) → only_place p.name old ≡ None → placed old (plain r) ≡ None
unplaced old p (Err e) named none = refl
unplaced old p (Ok d) named none = by (is_misnamed d)
  where
    by : (b : Bool) → placed old (cond b None (Some d)) ≡ None
    by true = refl
    by false = ap (option_map (λ k. record { at = k; decl = d })) (ap (λ n. only_place n old) (named d refl) ∙ none)

none_with : (o : Option Replacement) → with_all o None ≡ None
none_with None = refl
none_with (Some r) = refl

pub unnamed_placed : (s : Texts) (old : List Decl) (ps : List Put) → are_named old ps ≡ false → None ≡ all_placed old (plain_puts s ps)
unnamed_placed s old [] h = absurd (cc)
unnamed_placed s old (p ∷ ps) h = by (only_place p.name old) refl (λ k. unnamed_placed s old ps k) h
  where
    by : (o : Option ℕ) → only_place p.name old ≡ o → (are_named old ps ≡ false → None ≡ all_placed old (plain_puts s ps)) → (is_some o && are_named old ps) ≡ false → None ≡ all_placed old (plain_puts s (p ∷ ps))
    by None e rest k = sym (ap (λ o. with_all o (all_placed old (plain_puts s ps))) (unplaced old p (put_as p (s p.text)) (λ d is. put_name p (s p.text) d is) e))
    by (Some at) e rest k = sym (ap (with_all (placed old (plain (put_as p (s p.text))))) (sym (rest k)) ∙ none_with (placed old (plain (put_as p (s p.text)))))

-- all are read
plain_are : (s : Texts) (ps : List Put) (ds : List Decl) → puts_of s ps ≡ Ok ds → plain_puts s ps ≡ map unless_misnamed ds
plain_are s [] ds is = let none : [] ≡ ds = cc in ap (map unless_misnamed) none
plain_are s (p ∷ ps) ds is = by (put_as p (s p.text)) refl (puts_of s ps) (λ es f. plain_are s ps es f) is
  where
    by : (o : Result Decl Edited) → put_as p (s p.text) ≡ o → (os : Result (List Decl) Edited) → ((es : List Decl) → os ≡ Ok es → plain_puts s ps ≡ map unless_misnamed es)
        → and_then o os ≡ Ok ds → plain_puts s (p ∷ ps) ≡ map unless_misnamed ds
    by (Err e) q os f h = absurd (cc)
    by (Ok d) q (Err e) f h = absurd (cc)
    by (Ok d) q (Ok es) f h =
        let same : d ∷ es ≡ ds = cc in
        (λ i. plain (q i) ∷ f es refl i) ∙ ap (map unless_misnamed) same

pub read_placed : (s : Texts) (old : List Decl) (ps : List Put) (ds : List Decl) → puts_of s ps ≡ Ok ds → all_placed old (map unless_misnamed ds) ≡ all_placed old (plain_puts s ps)
read_placed s old ps ds is = ap (all_placed old) (sym (plain_are s ps ds is))

-- the first put that is refused refuses an edit without a drop
pub refused_by_puts : (old : List Decl) (ps : List Put) (fault : EditFault) → RefusedBy (puts_of reading ps) fault → (e : Edited) × (edited_by reading old (edit ps []) ≡ Some e) × Tells fault e
refused_by_puts old ps fault refused = (changed reading old ps [], refl, after_refused old (puts_of reading ps) [] fault refused)

pub refused_edit : (old : List Decl) (r : Request) (ps : List Put) (ns : List (List ℕ)) (fault : EditFault) → r ≡ edit ps ns → ns ≡ [] → RefusedBy (puts_of reading ps) fault
    → (e : Edited) × (edited_by reading old r ≡ Some e) × Tells fault e
refused_edit old r ps ns fault is none refused =
    subst (λ (q : Request). (e : Edited) × (edited_by reading old q ≡ Some e) × Tells fault e) (sym (is ∙ ap (edit ps) none)) (refused_by_puts old ps fault refused)
