-- Obligations, and questions, are told apart by their texts and keys.
use Rattle.std.proofs.Common.{◌≡◌, ℕ, ◌+◌, nat_eq, Bool, true, false, List, [], ◌∷◌, ◌++◌, refl, ap, sym, ◌∙◌, append_assoc}
use Rattle.obligation_text.specs.Numbers.{number_text}
use Rattle.std.proofs.lemmas.List.{append_cancel_left}
use Rattle.logic_core.specs.Tree.{Kind, Tree}
use Rattle.logic_core.specs.Def.{Def, Obligation}
use Rattle.obligation_text.specs.Text.{obligation_text, key, TextsTellApart}
use Rattle.obligation_text.specs.Asked.{Asked, KeysTellApart}
use Rattle.obligation_text.proofs.Digits.{first, rest, apart, decimal_reads}
use Rattle.obligation_text.proofs.Printed.{onto, sort_onto, sorts_onto}
use Rattle.obligation_text.proofs.SortsRead.{ap_two, ap_four, sort_reads, sorts_read}
use Rattle.obligation_text.proofs.TermsRead.{reads}
use Rattle.obligation_text.proofs.Lines.{spaced_onto, logical_byte, def_onto, defs_onto, axioms_onto, goal_onto, put_obligation}

vars_read : (ks ls : List Kind) (r s : List ℕ) → spaced_onto ks (10 ∷ r) ≡ spaced_onto ls (10 ∷ s) → (ks ≡ ls) × (r ≡ s)
vars_read [] [] r s e = (refl, ap rest e)
vars_read [] (l ∷ ls) r s e = apart (ap first e) refl
vars_read (k ∷ ks) [] r s e = apart (ap first e) refl
vars_read (k ∷ ks) (l ∷ ls) r s e = let h = sort_reads k l (spaced_onto ks (10 ∷ r)) (spaced_onto ls (10 ∷ s)) (ap rest e) in
    let i = vars_read ks ls r s h.1 in (ap_two (λ m ms. m ∷ ms) h.0 i.0, i.1)

logical_read : (a b : Bool) → logical_byte a ≡ logical_byte b → a ≡ b
logical_read true true e = refl
logical_read false false e = refl
logical_read true false e = apart e refl
logical_read false true e = apart e refl

abbrev def_of : List Kind → Kind → Bool → Tree → Def
def_of ps k l b = record { params = ps; sort = k; logical = l; body = b }

-- what stands between a definition's number and its body
def_read : (n : ℕ) (d d' : Def) (r s : List ℕ) → def_onto n d r ≡ def_onto n d' s → (d ≡ d') × (r ≡ s)
def_read n d d' r s e =
    let dr = 32 ∷ sort_onto d.sort (32 ∷ onto d.body (10 ∷ r)) in let ds = 32 ∷ sort_onto d'.sort (32 ∷ onto d'.body (10 ∷ s)) in
    let h = append_cancel_left (number_text n) (32 ∷ logical_byte d.logical ∷ 32 ∷ sorts_onto d.params dr) (32 ∷ logical_byte d'.logical ∷ 32 ∷ sorts_onto d'.params ds) (ap (λ l. rest (rest (rest (rest l)))) e) in
    let l = logical_read d.logical d'.logical (ap (λ m. first (rest m)) h) in
    let p = sorts_read d.params d'.params dr ds (ap (λ m. rest (rest (rest m))) h) refl refl in
    let k = sort_reads d.sort d'.sort (32 ∷ onto d.body (10 ∷ r)) (32 ∷ onto d'.body (10 ∷ s)) (ap rest p.1) in
    let b = reads d.body d'.body (10 ∷ r) (10 ∷ s) (ap rest k.1) refl refl in
    (ap_four def_of p.0 k.0 l b.0, ap rest b.1)

defs_read : (n : ℕ) (ds es : List Def) (r s : List ℕ) → nat_eq (first r) 100 ≡ false → nat_eq (first s) 100 ≡ false
    → defs_onto n ds r ≡ defs_onto n es s → (ds ≡ es) × (r ≡ s)
defs_read n [] [] r s nr ns e = (refl, e)
defs_read n [] (d ∷ es) r s nr ns e = apart (ap first e) nr
defs_read n (d ∷ ds) [] r s nr ns e = apart (sym (ap first e)) ns
defs_read n (d ∷ ds) (d' ∷ es) r s nr ns e =
    let h = def_read n d d' (defs_onto (n + 1) ds r) (defs_onto (n + 1) es s) e in
    let i = defs_read (n + 1) ds es r s nr ns h.1 in (ap_two (λ m ms. m ∷ ms) h.0 i.0, i.1)

axioms_read : (ts us : List Tree) (t u : Tree) (r s : List ℕ) → axioms_onto ts (goal_onto t r) ≡ axioms_onto us (goal_onto u s) → (ts ≡ us) × (goal_onto t r ≡ goal_onto u s)
axioms_read [] [] t u r s e = (refl, e)
axioms_read [] (y ∷ us) t u r s e = apart (ap first e) refl
axioms_read (x ∷ ts) [] t u r s e = apart (ap first e) refl
axioms_read (x ∷ ts) (y ∷ us) t u r s e =
    let h = reads x y (10 ∷ axioms_onto ts (goal_onto t r)) (10 ∷ axioms_onto us (goal_onto u s)) (ap (λ l. rest (rest (rest l))) e) refl refl in
    let i = axioms_read ts us t u r s (ap rest h.1) in (ap_two (λ m ms. m ∷ ms) h.0 i.0, i.1)

no_definition : (ts : List Tree) (t : Tree) (r : List ℕ) → nat_eq (first (axioms_onto ts (goal_onto t r))) 100 ≡ false
no_definition [] t r = refl
no_definition (x ∷ ts) t r = refl

abbrev obligation_of : List Kind → List Def → List Tree → Tree → Obligation
obligation_of vs ds ts t = record { vars = vs; defs = ds; axioms = ts; goal = t }

-- an obligation's text tells the obligation and what follows
pub obligations_read : (o p : Obligation) (r s : List ℕ) → obligation_text o ++ r ≡ obligation_text p ++ s → (o ≡ p) × (r ≡ s)
obligations_read o p r s e =
    let ao = axioms_onto o.axioms (goal_onto o.goal r) in let as' = axioms_onto p.axioms (goal_onto p.goal s) in
    let put = sym ((put_obligation o).puts r) ∙ e ∙ (put_obligation p).puts s in
    let h = vars_read o.vars p.vars (defs_onto 0 o.defs ao) (defs_onto 0 p.defs as') (ap (λ l. rest (rest (rest (rest l)))) put) in
    let i = defs_read 0 o.defs p.defs ao as' (no_definition o.axioms o.goal r) (no_definition p.axioms p.goal s) h.1 in
    let j = axioms_read o.axioms p.axioms o.goal p.goal r s i.1 in
    let k = reads o.goal p.goal (10 ∷ r) (10 ∷ s) (ap (λ l. rest (rest (rest (rest (rest l))))) j.1) refl refl in
    (ap_four obligation_of h.0 i.0 j.0 k.0, ap rest k.1)

-- equal texts are texts of equal obligations
pub texts_tell_apart : TextsTellApart
texts_tell_apart o p e = (obligations_read o p [] [] (ap (λ l. l ++ []) e)).0

put_key : (m : ℕ) (t : List ℕ) → number_text m ++ (10 ∷ []) ++ t ≡ number_text m ++ (10 ∷ t)
put_key m t = append_assoc (number_text m) (10 ∷ []) t

-- and with turns
pub keys_tell : (o p : Obligation) (m n : ℕ) → key o m ≡ key p n → (o ≡ p) × (m ≡ n)
keys_tell o p m n e =
    let h = decimal_reads m n (10 ∷ obligation_text o) (10 ∷ obligation_text p) (sym (put_key m (obligation_text o)) ∙ e ∙ put_key n (obligation_text p)) refl refl in
    (texts_tell_apart o p (ap rest h.1), h.0)

abbrev asked : Obligation → ℕ → Asked
asked o m = record { obligation = o; turns = m }

pub keys_tell_apart : KeysTellApart
keys_tell_apart p q e = let h = keys_tell p.obligation q.obligation p.turns q.turns e in ap_two asked h.0 h.1
