-- From the front of one line to the next, in a text that is cut at the line %%.
use Rattle.std.proofs.Common.{◌≡◌, ℕ, ◌+◌, ◌-◌, ◌<◌, ◌≤◌, Bool, true, false, cond, List, [], ◌∷◌, ◌++◌, append_assoc, length, take, drop, min, sym, ap, ◌∙◌, arith, subst, codes}
use Rattle.std.specs.Prelude.{bytes_eq}
use Rattle.std.proofs.Math.Seq.{take-add}
use Rattle.std.proofs.lemmas.List.{append-nil, drop-drop, length-drop, length-take-le, take_all}
use Rattle.recheck_report.specs.Lines.{pieces, without_feed}
use Rattle.recheck_report.specs.Parts.{is_mark, before_mark, after_mark, program_in}
use Rattle.recheck_report.proofs.Pieces.{IsFirstPiece, first_piece}

-- a slice to the end is what stands from its front on
pub to_the_end : (text : List ℕ) (at : ℕ) → at ≤ length text → take (length text - at) (drop at text) ≡ drop at text
to_the_end text at inside = take_all (length text - at) (drop at text) (omega (arith, length-drop at text))

-- the line from `at` on has n bytes, and what follows it begins at `next`
pub record IsLine (text : List ℕ) (at n next : ℕ) : Type 0 where
  pub inside : at < length text
  pub within : n ≤ length (take (length text - at) (drop at text))
  pub line : take n (take (length text - at) (drop at text)) ≡ without_feed (take (length text - at) (drop at text))
  pub next_is : next ≡ min (at + n + 1) (length text)

-- whether it is the mark
abbrev pub is_marked : List ℕ → ℕ → ℕ → Bool
is_marked text at n = bytes_eq (take (at + n - at) (drop at text)) (codes "%%")

pub record Passes (text : List ℕ) (at next : ℕ) (m : Bool) : Type 0 where
  pub program : take at text ++ program_in (drop at text) ≡ cond m (take at text) (take next text ++ program_in (drop next text))
  pub behind : after_mark (pieces (drop at text)) ≡ cond m (pieces (drop next text)) (after_mark (pieces (drop next text)))

joined : (text : List ℕ) (at k : ℕ) (m : Bool) → is_mark (take k (drop at text)) ≡ m
    → pieces (drop at text) ≡ take k (drop at text) ∷ pieces (drop (at + k) text)
    → Passes text at (at + k) m
joined text at k true mark are = record {
  program = ap (λ ps. take at text ++ before_mark ps) are ∙ ap (λ b. take at text ++ cond b [] (take k (drop at text) ++ program_in (drop (at + k) text))) mark ∙ append-nil (take at text);
  behind = ap after_mark are ∙ ap (λ b. cond b (pieces (drop (at + k) text)) (after_mark (pieces (drop (at + k) text)))) mark;
}
joined text at k false mark are = record {
  program = ap (λ ps. take at text ++ before_mark ps) are ∙ ap (λ b. take at text ++ cond b [] (take k (drop at text) ++ program_in (drop (at + k) text))) mark
      ∙ sym (append_assoc (take at text) (take k (drop at text)) (program_in (drop (at + k) text)))
      ∙ ap (λ front. front ++ program_in (drop (at + k) text)) (sym (take-add at k text));
  behind = ap after_mark are ∙ ap (λ b. cond b (pieces (drop (at + k) text)) (after_mark (pieces (drop (at + k) text)))) mark;
}

pub passes : (text : List ℕ) (at n next : ℕ) (m : Bool) → IsLine text at n next → m ≡ is_marked text at n → Passes text at next m
passes text at n next m l is =
    let whole : take (length text - at) (drop at text) ≡ drop at text = to_the_end text at (omega (arith, l.inside)) in
    let line : take n (drop at text) ≡ without_feed (drop at text) = subst (λ (xs : List ℕ). take n xs ≡ without_feed xs) whole l.line in
    let within : n ≤ length (drop at text) = subst (λ (xs : List ℕ). n ≤ length xs) whole l.within in
    let rest : length (drop at text) ≡ length text - at = length-drop at text in
    let long : length (without_feed (drop at text)) ≡ n = sym (ap length line) ∙ length-take-le n (drop at text) within in
    let here : next ≡ at + min (n + 1) (length (drop at text)) = omega (arith, l.inside, l.next_is, rest) in
    let piece : IsFirstPiece (drop at text) (min (n + 1) (length (drop at text))) = first_piece (drop at text) (min (n + 1) (length (drop at text))) (omega (arith, l.inside, rest)) (omega (arith, long)) in
    let same : n ≡ at + n - at = omega arith in
    let mark : is_mark (take (min (n + 1) (length (drop at text))) (drop at text)) ≡ m =
    ap (λ (xs : List ℕ). bytes_eq xs (codes "%%")) (piece.line_is ∙ sym line ∙ ap (λ (j : ℕ). take j (drop at text)) same) ∙ sym is in
    let are : pieces (drop at text) ≡ take (min (n + 1) (length (drop at text))) (drop at text) ∷ pieces (drop (at + min (n + 1) (length (drop at text))) text) =
    piece.pieces_are ∙ ap (λ (xs : List ℕ). take (min (n + 1) (length (drop at text))) (drop at text) ∷ pieces xs) (drop-drop (min (n + 1) (length (drop at text))) at text) in
    subst (λ (j : ℕ). Passes text at j m) (sym here) (joined text at (min (n + 1) (length (drop at text))) m mark are)
