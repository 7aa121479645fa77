-- How often a label stands in a stack, as labels are put on top and taken off.
use Rattle.std.proofs.Common.{◌≡◌, refl, sym, ap, ◌∙◌, ℕ, suc, ◌+◌, ◌-◌, Bool, true, false, ◌||◌, cond, List, [], ◌∷◌, ◌++◌, map, Some, None, bytes_eq, nat_lt, arith}
use Rattle.std.specs.Map.{lookup}
use Rattle.std.specs.Borrow.{Bor}
use Rattle.std.proofs.lemmas.List.{reverse-append}
use Rattle.std.proofs.lemmas.Bool.{lt-ltb}
use Rattle.std.proofs.lemmas.Slice.Eq.{bytes_eq-Decides}
use Rattle.indexmap.specs.IndexMap.{insert_entry}
use Rattle.bv_base.specs.Text.{is_among}
use Rattle.bpl_scopes.specs.Positions.{or_other}
use Rattle.bpl_scopes.specs.Scopes.{Text}
use Rattle.bpl_statement_faults.specs.StackView.{stack_seen, occurrences, AreCounted}

-- a label is there where it stands there at least once
pub counted_among : (n : Text) (ls : List Text) → nat_lt 0 (occurrences n ls) ≡ is_among ls n
counted_among n [] = refl
counted_among n (m ∷ ms) = by (bytes_eq n m) (counted_among n ms)
  where
    by : (b : Bool) → nat_lt 0 (occurrences n ms) ≡ is_among ms n → nat_lt 0 (cond b (suc (occurrences n ms)) (occurrences n ms)) ≡ (b || is_among ms n)
    by true h = lt-ltb 0 (suc (occurrences n ms)) (omega arith)
    by false h = h

looked_up : (n : Text) (es : List (Bor Text × ℕ)) (k : Bor Text) (c : ℕ) → or_other (lookup (λ j. bytes_eq n j.now) (insert_entry (λ i j. bytes_eq i.now j.now) es k c)) 0 ≡ cond (bytes_eq n k.now) c (or_other (lookup (λ j. bytes_eq n j.now) es) 0)
looked_up n [] k c = by (bytes_eq n k.now)
  where
    by : (b : Bool) → or_other (cond b (Some c) None) 0 ≡ cond b c 0
    by true = refl
    by false = refl
looked_up n (e ∷ es) k c = by (bytes_eq k.now e.0.now) refl (looked_up n es k c)
  where
    same : (b : Bool) → or_other (cond b (Some c) (lookup (λ j. bytes_eq n j.now) es)) 0 ≡ cond b c (or_other (cond b (Some e.1) (lookup (λ j. bytes_eq n j.now) es)) 0)
    same true = refl
    same false = refl

    other : (b d : Bool) → (b ≡ true → d ≡ true → ⊥) → or_other (lookup (λ j. bytes_eq n j.now) (insert_entry (λ i j. bytes_eq i.now j.now) es k c)) 0 ≡ cond d c (or_other (lookup (λ j. bytes_eq n j.now) es) 0)
        → or_other (cond b (Some e.1) (lookup (λ j. bytes_eq n j.now) (insert_entry (λ i j. bytes_eq i.now j.now) es k c))) 0 ≡ cond d c (or_other (cond b (Some e.1) (lookup (λ j. bytes_eq n j.now) es)) 0)
    other true true h g = absurd (h refl refl)
    other true false h g = refl
    other false d h g = g

    by : (b : Bool) → bytes_eq k.now e.0.now ≡ b → or_other (lookup (λ j. bytes_eq n j.now) (insert_entry (λ i j. bytes_eq i.now j.now) es k c)) 0 ≡ cond (bytes_eq n k.now) c (or_other (lookup (λ j. bytes_eq n j.now) es) 0)
        → or_other (lookup (λ j. bytes_eq n j.now) (cond b ((e.0, c) ∷ es) (e ∷ insert_entry (λ i j. bytes_eq i.now j.now) es k c))) 0 ≡ cond (bytes_eq n k.now) c (or_other (cond (bytes_eq n e.0.now) (Some e.1) (lookup (λ j. bytes_eq n j.now) es)) 0)
    by true h g = let one : k.now ≡ e.0.now = (bytes_eq-Decides k.now e.0.now).0 h in
        sym (ap (λ t. or_other (cond (bytes_eq n t) (Some c) (lookup (λ j. bytes_eq n j.now) es)) 0) one) ∙ same (bytes_eq n k.now)
        ∙ ap (λ t. cond (bytes_eq n k.now) c (or_other (cond (bytes_eq n t) (Some e.1) (lookup (λ j. bytes_eq n j.now) es)) 0)) one
    by false h g = other (bytes_eq n e.0.now) (bytes_eq n k.now)
        (λ p q. let one : bytes_eq k.now e.0.now ≡ true = ap (λ t. bytes_eq t e.0.now) (sym ((bytes_eq-Decides n k.now).0 q)) ∙ p in cc) g

pub seen_behind : (ls : List (Bor Text)) (l : Bor Text) → stack_seen (ls ++ l ∷ []) ≡ l.now ∷ stack_seen ls
seen_behind ls l = ap (map (λ (k : Bor Text). k.now)) (reverse-append ls (l ∷ []))

-- a label on top of the others
pub counted_push : (es fs : List (Bor Text × ℕ)) (ls ms : List (Bor Text)) (l : Bor Text) (c : ℕ) → AreCounted es (stack_seen ls) → c ≡ or_other (lookup (λ k. bytes_eq l.now k.now) es) 0 + 1
    → fs ≡ insert_entry (λ i j. bytes_eq i.now j.now) es l c → ms ≡ ls ++ l ∷ [] → AreCounted fs (stack_seen ms)
counted_push es fs ls ms l c h is made put n =
    ap (λ gs. or_other (lookup (λ k. bytes_eq n k.now) gs) 0) made ∙ looked_up n es l c ∙ by (bytes_eq n l.now) refl ∙ sym (ap (occurrences n) (ap stack_seen put ∙ seen_behind ls l))
  where
    by : (b : Bool) → bytes_eq n l.now ≡ b → cond b c (or_other (lookup (λ k. bytes_eq n k.now) es) 0) ≡ cond b (suc (occurrences n (stack_seen ls))) (occurrences n (stack_seen ls))
    by true e = let one : n ≡ l.now = (bytes_eq-Decides n l.now).0 e in
        let same : or_other (lookup (λ k. bytes_eq l.now k.now) es) 0 ≡ occurrences n (stack_seen ls) = h l.now ∙ ap (λ t. occurrences t (stack_seen ls)) (sym one) in omega arith
    by false e = h n

-- the top taken off
pub counted_pop : (es fs : List (Bor Text × ℕ)) (ls ms : List (Bor Text)) (l : Bor Text) (c : ℕ) → AreCounted es (stack_seen ls) → c ≡ or_other (lookup (λ k. bytes_eq l.now k.now) es) 0 - 1
    → fs ≡ insert_entry (λ i j. bytes_eq i.now j.now) es l c → ls ≡ ms ++ l ∷ [] → AreCounted fs (stack_seen ms)
counted_pop es fs ls ms l c h is made put n =
    ap (λ gs. or_other (lookup (λ k. bytes_eq n k.now) gs) 0) made ∙ looked_up n es l c ∙ by (bytes_eq n l.now) refl (h n ∙ ap (occurrences n) seen)
  where
    seen : stack_seen ls ≡ l.now ∷ stack_seen ms
    seen = ap stack_seen put ∙ seen_behind ms l

    by : (b : Bool) → bytes_eq n l.now ≡ b → or_other (lookup (λ k. bytes_eq n k.now) es) 0 ≡ cond b (suc (occurrences n (stack_seen ms))) (occurrences n (stack_seen ms)) → cond b c (or_other (lookup (λ k. bytes_eq n k.now) es) 0) ≡ occurrences n (stack_seen ms)
    by true e g = let one : n ≡ l.now = (bytes_eq-Decides n l.now).0 e in
        let same : or_other (lookup (λ k. bytes_eq l.now k.now) es) 0 ≡ or_other (lookup (λ k. bytes_eq n k.now) es) 0 = ap (λ t. or_other (lookup (λ k. bytes_eq t k.now) es) 0) (sym one) in omega arith
    by false e g = g
