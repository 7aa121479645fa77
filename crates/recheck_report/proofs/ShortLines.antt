-- No line of a text is longer than the text.
use Rattle.std.proofs.Common.{ℕ, suc, ◌^◌, ◌<◌, ◌≤◌, arith, Bool, true, false, cond, List, [], ◌∷◌, length, map, sym, subst}
use Rattle.std.specs.List.{AllByRecursion}
use Rattle.recheck_report.specs.Lines.{is_feed, onto, pieces, without_feed, lines, first_line, later_lines}
use Rattle.recheck_report.specs.AnswerView.{AreShort}
use Rattle.recheck_report.proofs.Pieces.{lines_are}

abbrev AreWithin : ℕ → List (List ℕ) → Type 0
AreWithin n ps = AllByRecursion (λ p. length p ≤ n) ps

wider : (n : ℕ) (ps : List (List ℕ)) → AreWithin n ps → AreWithin (suc n) ps
wider n [] h = tt
wider n (p ∷ ps) h = ((let first = h.0 in omega (arith, first)), wider n ps h.1)

one_more : (b n : ℕ) (ps : List (List ℕ)) → AreWithin n ps → AreWithin (suc n) (onto b ps)
one_more b n [] h = (omega arith, tt)
one_more b n (p ∷ ps) h = ((let first = h.0 in omega (arith, first)), wider n ps h.1)

pieces_within : (text : List ℕ) → AreWithin (length text) (pieces text)
pieces_within [] = tt
pieces_within (b ∷ bs) = by_feed (is_feed b) (pieces_within bs)
  where
    by_feed : (f : Bool) → AreWithin (length bs) (pieces bs) → AreWithin (suc (length bs)) (cond f ((b ∷ []) ∷ pieces bs) (onto b (pieces bs)))
    by_feed true rest = (omega arith, wider (length bs) (pieces bs) rest)
    by_feed false rest = one_more b (length bs) (pieces bs) rest

line_within : (piece : List ℕ) → length (without_feed piece) ≤ length piece
line_within [] = omega arith
line_within (b ∷ bs) = by_feed (is_feed b) (line_within bs)
  where
    by_feed : (f : Bool) → length (without_feed bs) ≤ length bs → length (cond f [] (b ∷ without_feed bs)) ≤ suc (length bs)
    by_feed true rest = omega arith
    by_feed false rest = omega (arith, rest)

each_short : (n : ℕ) (ps : List (List ℕ)) → n < 2 ^ 32 → AreWithin n ps → AreShort (map without_feed ps)
each_short n [] below h = tt
each_short n (p ∷ ps) below h = ((let first = h.0 in let line = line_within p in omega (arith, first, line, below)), each_short n ps below h.1)

pub lines_short : (text : List ℕ) → length text < 2 ^ 32 → AreShort (lines text)
lines_short text below = subst AreShort (sym (lines_are text)) (each_short (length text) (pieces text) below (pieces_within text))

pub first_short : (ls : List (List ℕ)) → AreShort ls → length (first_line ls) < 2 ^ 32
first_short [] h = omega arith
first_short (l ∷ ls) h = h.0

pub later_short : (ls : List (List ℕ)) → AreShort ls → AreShort (later_lines ls)
later_short [] h = tt
later_short (l ∷ ls) h = h.1
