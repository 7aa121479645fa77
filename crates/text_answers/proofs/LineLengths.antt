-- How long a text's two parts are: the program has no more bytes than the text, and so have the lines behind it, one line feed more at most.
use Rattle.std.proofs.Common.{◌≡◌, ℕ, ◌+◌, ◌≤◌, Bool, true, false, cond, List, [], ◌∷◌, ◌++◌, length, map, refl, sym, ap, ◌∙◌, arith}
use Rattle.std.proofs.lemmas.List.{length-append}
use Rattle.recheck_report.specs.Lines.{is_feed, onto, pieces, without_feed, lines}
use Rattle.recheck_report.proofs.Pieces.{lines_are}
use Rattle.recheck_report.specs.Parts.{is_mark, before_mark, after_mark, program_in, lines_in}

-- the bytes of pieces
abbrev bytes_in : List (List ℕ) → ℕ
bytes_in [] = 0
bytes_in (p ∷ ps) = length p + bytes_in ps

-- the bytes of lines, each with a line feed
abbrev ended_in : List (List ℕ) → ℕ
ended_in [] = 0
ended_in (l ∷ ls) = length l + 1 + ended_in ls

onto_bytes : (b : ℕ) (ps : List (List ℕ)) → bytes_in (onto b ps) ≡ bytes_in ps + 1
onto_bytes b [] = refl
onto_bytes b (p ∷ ps) = omega arith

cut_bytes : (feed : Bool) (b : ℕ) (ps : List (List ℕ)) → bytes_in (cond feed ((b ∷ []) ∷ ps) (onto b ps)) ≡ bytes_in ps + 1
cut_bytes true b ps = omega arith
cut_bytes false b ps = onto_bytes b ps

pieces_bytes : (text : List ℕ) → bytes_in (pieces text) ≡ length text
pieces_bytes [] = refl
pieces_bytes (b ∷ bs) = omega (arith, cut_bytes (is_feed b) b (pieces bs), pieces_bytes bs)

before_cond : (m : Bool) (p : List ℕ) (ps : List (List ℕ)) (n : ℕ) → length (before_mark ps) ≤ n → length (cond m [] (p ++ before_mark ps)) ≤ length p + n
before_cond true p ps n rest = omega arith
before_cond false p ps n rest = omega (arith, rest, length-append p (before_mark ps))

before_bytes : (ps : List (List ℕ)) → length (before_mark ps) ≤ bytes_in ps
before_bytes [] = omega arith
before_bytes (p ∷ ps) = before_cond (is_mark p) p ps (bytes_in ps) (before_bytes ps)

pub program_is_shorter : (text : List ℕ) → length (program_in text) ≤ length text
program_is_shorter text = omega (arith, before_bytes (pieces text), pieces_bytes text)

-- ---- lines

abbrev lines_bytes : List (List ℕ) → ℕ
lines_bytes ps = ended_in (map without_feed ps)

more_at_least : (feed : Bool) (b : ℕ) (ps : List (List ℕ)) → is_feed b ≡ feed → lines_bytes ps + 1 ≤ lines_bytes (cond feed ((b ∷ []) ∷ ps) (onto b ps))
more_at_least true b ps e = omega arith
more_at_least false b [] e = omega arith
more_at_least false b (p ∷ ps) e =
    let long : length (without_feed (b ∷ p)) ≡ length (b ∷ without_feed p) = ap (λ c. length (cond c [] (b ∷ without_feed p))) e in
    omega (arith, long)

at_least : (text : List ℕ) → length text ≤ lines_bytes (pieces text)
at_least [] = omega arith
at_least (b ∷ bs) = omega (arith, more_at_least (is_feed b) b (pieces bs) refl, at_least bs)

more_at_most : (feed : Bool) (b : ℕ) (ps : List (List ℕ)) (n : ℕ) → is_feed b ≡ feed → lines_bytes ps ≤ n + 1 → lines_bytes (cond feed ((b ∷ []) ∷ ps) (onto b ps)) ≤ n + 2
more_at_most true b ps n e h =
    let none : length (without_feed (b ∷ [])) ≡ 0 = ap (λ c. length (cond c [] (b ∷ []))) e in
    omega (arith, none, h)
more_at_most false b [] n e h =
    let one : length (without_feed (b ∷ [])) ≡ 1 = ap (λ c. length (cond c [] (b ∷ []))) e in
    omega (arith, one, h)
more_at_most false b (p ∷ ps) n e h =
    let long : length (without_feed (b ∷ p)) ≡ length (b ∷ without_feed p) = ap (λ c. length (cond c [] (b ∷ without_feed p))) e in
    omega (arith, long, h)

at_most : (text : List ℕ) → lines_bytes (pieces text) ≤ length text + 1
at_most [] = omega arith
at_most (b ∷ bs) = omega (arith, more_at_most (is_feed b) b (pieces bs) (length bs) refl (at_most bs))

after_cond : (m : Bool) (p : List ℕ) (ps : List (List ℕ)) → lines_bytes (after_mark ps) ≤ lines_bytes ps → lines_bytes (cond m ps (after_mark ps)) ≤ length (without_feed p) + 1 + lines_bytes ps
after_cond true p ps h = omega arith
after_cond false p ps h = omega (arith, h)

after_is_less : (ps : List (List ℕ)) → lines_bytes (after_mark ps) ≤ lines_bytes ps
after_is_less [] = omega arith
after_is_less (p ∷ ps) = after_cond (is_mark p) p ps (after_is_less ps)

pub proofs_are_shorter : (text proofs : List ℕ) → lines proofs ≡ lines_in text → length proofs ≤ length text + 1
proofs_are_shorter text proofs e =
    let same : lines_bytes (pieces proofs) ≡ lines_bytes (after_mark (pieces text)) = ap ended_in (sym (lines_are proofs) ∙ e) in
    omega (arith, same, at_least proofs, after_is_less (pieces text), at_most text)
