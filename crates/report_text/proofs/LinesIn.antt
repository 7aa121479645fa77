-- A line stands in the text of some lines only where it is one of them.
use Rattle.std.proofs.Common.{◌≡◌, ◌∙◌, ◌⊎◌, inl, inr, ℕ, zero, suc, ◌+◌, arith, nat_eq, Bool, true, false, cond, List, [], ◌∷◌, ◌++◌, All, Contains, length, refl, sym, ap}
use Rattle.std.proofs.lemmas.List.{append_assoc}
use Rattle.bv_base.specs.Text.{line_feed, ended, text_of, count, IsWithout, IsLineStart, HasLine}
use Rattle.report_text.proofs.Counts.{count_append}

-- where two texts of a front, a line feed and a rest are equal and the first front has none, the second is it or goes on behind it
pub data Split (l x front z : List ℕ) : Type 0 where
  same : l ≡ front → x ≡ z → Split l x front z
  behind : (more : List ℕ) → front ≡ l ++ line_feed ∷ more → x ≡ more ++ line_feed ∷ z → Split l x front z

grown : (c : ℕ) (cs x fs z : List ℕ) → Split cs x fs z → Split (c ∷ cs) x (c ∷ fs) z
grown c cs x fs z (same e r) = same (ap (λ t. c ∷ t) e) r
grown c cs x fs z (behind more e r) = behind more (ap (λ t. c ∷ t) e) r

split_at : (l x front z : List ℕ) → IsWithout line_feed l → l ++ line_feed ∷ x ≡ front ++ line_feed ∷ z → Split l x front z
split_at [] x [] z h e = same refl (cc)
split_at [] x (f ∷ fs) z h e = behind fs (cc) (cc)
split_at (c ∷ cs) x [] z h e = absurd (let feed : c ≡ line_feed = cc in let e2 : count line_feed (c ∷ cs) ≡ 1 + count line_feed cs = ap (λ b. cond (nat_eq b line_feed) 1 0 + count line_feed cs) feed in omega (arith, h, e2))
split_at (c ∷ cs) x (f ∷ fs) z h e =
    let first : f ≡ c = cc in
    let rest : cs ++ line_feed ∷ x ≡ fs ++ line_feed ∷ z = cc in
    let s = grown c cs x fs z (split_at cs x fs z (omega (arith, h)) rest) in
    rw first s

longer : (ls : List (List ℕ)) (l line : List ℕ) → Contains ls line → Contains (l ∷ ls) line
longer ls l line (k, lt, e) = (suc k, omega (arith, lt), e)

pub line_is_among : (lines : List (List ℕ)) (line : List ℕ) → All (IsWithout line_feed) lines → IsWithout line_feed line → HasLine (text_of lines) line → Contains lines line
line_is_among [] line ws h has = absurd (nothing has.before line has.after has.stands)
  where
    nothing : (before line after : List ℕ) → [] ≡ before ++ (ended line ++ after) → ⊥
    nothing [] [] after e = cc
    nothing [] (c ∷ cs) after e = cc
    nothing (b ∷ bs) line after e = cc
line_is_among (l ∷ ls) line ws h has = from_start (λ later. line_is_among ls line (λ k d lt. ws (suc k) d (omega (arith, lt))) h later) has.starts
  where
    rest : List ℕ
    rest = text_of ls

    whole : l ++ line_feed ∷ rest ≡ has.before ++ (ended line ++ has.after)
    whole = sym (append_assoc l (line_feed ∷ []) rest) ∙ has.stands

    ended_is : ended line ++ has.after ≡ line ++ line_feed ∷ has.after
    ended_is = append_assoc line (line_feed ∷ []) has.after

    behind_it : (HasLine rest line → Contains ls line) → HasLine rest line → Contains (l ∷ ls) line
    behind_it among later = longer ls l line (among later)

    first : Split l rest line has.after → Contains (l ∷ ls) line
    first (same e r) = (0, omega arith, e)
    first (behind more e r) = absurd (
        let c1 : count line_feed line ≡ count line_feed (l ++ line_feed ∷ more) = ap (count line_feed) e in
        let c2 = count_append line_feed l (line_feed ∷ more) in
        omega (arith, h, c1, c2))

    later : (front : List ℕ) → Split l rest front (ended line ++ has.after) → HasLine rest line
    later front (same e r) = record { before = []; after = has.after; starts = inl refl; stands = r }
    later front (behind more e r) = record { before = more ++ line_feed ∷ []; after = has.after; starts = inr (more, refl); stands = r ∙ sym (append_assoc more (line_feed ∷ []) (ended line ++ has.after)) }

    from_start : (HasLine rest line → Contains ls line) → IsLineStart has.before → Contains (l ∷ ls) line
    from_start among (inl e) = first (split_at l rest line has.after (ws 0 [] (omega arith)) (whole ∙ ap (λ b. b ++ (ended line ++ has.after)) e ∙ ended_is))
    from_start among (inr (front, e)) = behind_it among (later front (split_at l rest front (ended line ++ has.after) (ws 0 [] (omega arith))
        (whole ∙ ap (λ b. b ++ (ended line ++ has.after)) e ∙ append_assoc front (line_feed ∷ []) (ended line ++ has.after))))
