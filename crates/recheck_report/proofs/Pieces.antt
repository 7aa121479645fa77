-- A text's first piece, and those behind it; its lines are its pieces without their line feeds.
use Rattle.std.proofs.Common.{◌≡◌, ℕ, zero, suc, ◌+◌, ◌<◌, ◌≤◌, Bool, true, false, cond, List, [], ◌∷◌, length, take, drop, map, min, refl, sym, ap, ◌∙◌, arith}
use Rattle.std.proofs.lemmas.List.{length-take-le}
use Rattle.bv_base.specs.Lines.{onto as joins}
use Rattle.recheck_report.specs.Lines.{is_feed, onto, pieces, without_feed, lines, first_line, later_lines}

-- a text that isn't empty has a first piece of so many bytes
pub record IsFirstPiece (text : List ℕ) (k : ℕ) : Type 0 where
  pub pieces_are : pieces text ≡ take k text ∷ pieces (drop k text)
  pub line_is : without_feed (take k text) ≡ without_feed text

with_byte : (feed : Bool) (b j : ℕ) (bs : List ℕ) → suc j ≡ min (length (cond feed [] (b ∷ without_feed bs)) + 1) (suc (length bs))
    → (0 < length bs → j ≡ min (length (without_feed bs) + 1) (length bs) → IsFirstPiece bs j)
    → (cond feed ((b ∷ []) ∷ pieces bs) (onto b (pieces bs)) ≡ (b ∷ take j bs) ∷ pieces (drop j bs))
    × (cond feed [] (b ∷ without_feed (take j bs)) ≡ cond feed [] (b ∷ without_feed bs))
with_byte true b j bs is later =
    let none : j ≡ 0 = omega arith in
    (rw none refl, refl)
with_byte false b j [] is later =
    let none : j ≡ 0 = omega arith in
    (rw none refl, rw none refl)
with_byte false b j (x ∷ bs) is later =
    let next = later (omega arith) (omega arith) in
    (rw (next.pieces_are) refl, ap (λ line. b ∷ line) next.line_is)

pub first_piece : (text : List ℕ) (k : ℕ) → 0 < length text → k ≡ min (length (without_feed text) + 1) (length text) → IsFirstPiece text k
first_piece [] k some is = absurd (omega arith)
first_piece (b ∷ bs) zero some is = absurd (omega arith)
first_piece (b ∷ bs) (suc j) some is =
    let all = with_byte (is_feed b) b j bs is (λ more at. first_piece bs j more at) in
    record { pieces_are = all.0; line_is = all.1 }

-- a byte before the text
line_by_line : (feed : Bool) (b : ℕ) (ps : List (List ℕ)) → is_feed b ≡ feed
    → cond feed ([] ∷ map without_feed ps) (joins b (map without_feed ps)) ≡ map without_feed (cond feed ((b ∷ []) ∷ ps) (onto b ps))
line_by_line true b ps e = ap (λ c. cond c [] (b ∷ []) ∷ map without_feed ps) (sym e)
line_by_line false b [] e = ap (λ c. cond c [] (b ∷ []) ∷ []) (sym e)
line_by_line false b (p ∷ ps) e = ap (λ c. cond c [] (b ∷ without_feed p) ∷ map without_feed ps) (sym e)

pub lines_are : (text : List ℕ) → lines text ≡ map without_feed (pieces text)
lines_are [] = refl
lines_are (b ∷ bs) = ap (λ ls. cond (is_feed b) ([] ∷ ls) (joins b ls)) (lines_are bs) ∙ line_by_line (is_feed b) b (pieces bs) refl

-- where n bytes stand before the first line feed: the first line, and those behind it
pub first_and_later : (text : List ℕ) (n k : ℕ) → n ≤ length text → take n text ≡ without_feed text → k ≡ min (n + 1) (length text)
    → (take n text ≡ first_line (lines text)) × (lines (drop k text) ≡ later_lines (lines text))
first_and_later [] n k within line is =
    let none : n ≡ 0 = omega arith in
    let nowhere : k ≡ 0 = omega arith in
    (rw none refl, rw nowhere refl)
first_and_later (b ∷ bs) n k within line is =
    let long : length (without_feed (b ∷ bs)) ≡ n = sym (ap length line) ∙ length-take-le n (b ∷ bs) within in
    let piece : IsFirstPiece (b ∷ bs) k = first_piece (b ∷ bs) k (omega arith) (omega arith) in
    let are : lines (b ∷ bs) ≡ without_feed (take k (b ∷ bs)) ∷ lines (drop k (b ∷ bs)) =
    lines_are (b ∷ bs) ∙ ap (map without_feed) piece.pieces_are ∙ ap (λ ls. without_feed (take k (b ∷ bs)) ∷ ls) (sym (lines_are (drop k (b ∷ bs)))) in
    (line ∙ sym piece.line_is ∙ sym (ap first_line are), sym (ap later_lines are))
