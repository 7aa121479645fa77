-- Lists of which the first and the last so many items stay, with others between them.
use Rattle.std.specs.Prelude.{◌≡◌, refl, ℕ, ◌+◌, ◌-◌, ◌≤◌, Bool, List, [], ◌++◌, map, length, take, drop, count_by, slice_range}
use Rattle.std.proofs.Common.{ap, arith, append_assoc}
use Rattle.std.proofs.lemmas.List.{length-append, length-take-le, length-drop, length-map, drop_at, drop-drop, take-map, drop-map, map-append}
use Rattle.std.proofs.Math.Seq.{take-append_seam}
use mathlib.Core.Path.{sym, ◌∙◌}
use Rattle.board_core.specs.Kept.{Key}
use Rattle.board_core.specs.Difference.{IsDifference, with_middle}
use Rattle.board_core.proofs.Differing.{counted_parts, part_keys}

module _ {X : Type 0} (first : ℕ) (xs mid rest : List X) (fits : first ≤ length xs) where
  pub middle_starts : take first (take first xs ++ mid ++ rest) ≡ take first xs
  middle_starts = ap (take first) (append_assoc (take first xs) mid rest) ∙ ap (λ n. take n (take first xs ++ (mid ++ rest))) (sym (length-take-le first xs fits)) ∙ take-append_seam (take first xs) (mid ++ rest)

  past_first : drop first (take first xs ++ mid ++ rest) ≡ mid ++ rest
  past_first = ap (drop first) (append_assoc (take first xs) mid rest) ∙ drop_at (take first xs) (mid ++ rest) first (length-take-le first xs fits)

  pub middle_ends : drop (first + length mid) (take first xs ++ mid ++ rest) ≡ rest
  middle_ends = sym (drop-drop (length mid) first (take first xs ++ mid ++ rest)) ∙ ap (drop (length mid)) past_first ∙ drop_at mid rest (length mid) refl

  pub middle_part : slice_range (take first xs ++ mid ++ rest) first (first + length mid) ≡ mid
  middle_part =
      let n : (first + length mid) - first ≡ length mid = omega arith in
      ap (λ k. take k (drop first (take first xs ++ mid ++ rest))) n ∙ ap (take (length mid)) past_first ∙ take-append_seam mid rest

  pub middle_length : length (take first xs ++ mid ++ rest) ≡ first + length mid + length rest
  middle_length = omega (arith, length-append (take first xs ++ mid) rest, length-append (take first xs) mid, length-take-le first xs fits)

module _ (first last : ℕ) (mid keys : List Key) (fits : first + last ≤ length keys) where
  pub middle_count : length (with_middle first last mid keys) ≡ first + length mid + last
  middle_count = omega (arith, middle_length first keys mid (drop (length keys - last) keys) (omega (arith, fits)), length-drop (length keys - last) keys, fits)

  -- the keys that stay are those before and behind the others
  pub middle_differs : (end : ℕ) → end ≡ length (with_middle first last mid keys) - last → IsDifference keys (with_middle first last mid keys) first (length keys - last) end
  middle_differs end is =
      let at : first + length mid ≡ end = omega (arith, is, middle_count) in
      record {
        old_starts = omega (arith, fits);
        old_ends = omega arith;
        new_starts = omega (arith, at);
        new_ends = omega (arith, is);
        before = sym (middle_starts first keys mid (drop (length keys - last) keys) (omega (arith, fits)));
        after = sym (middle_ends first keys mid (drop (length keys - last) keys) (omega (arith, fits))) ∙ ap (λ n. drop n (with_middle first last mid keys)) at;
      }

module _ {Q : Type 0} (f : Q → Key) (from to : ℕ) (old mid new : List Q) (fits : from + length mid ≤ length old) (at : to ≡ from + length mid) (put : new ≡ take from old ++ mid ++ drop to old) where
  -- as many others between those that stay
  pub exchanged_part : slice_range new from to ≡ mid
  exchanged_part = ap (λ l. slice_range l from to) put ∙ ap (λ n. slice_range (take from old ++ mid ++ drop to old) from n) at ∙ middle_part from old mid (drop to old) (omega (arith, fits))

  exchanged_length : length new ≡ length old
  exchanged_length = omega (arith, ap length put, middle_length from old mid (drop to old) (omega (arith, fits)), length-drop to old, at, fits)

  exchanged_end : drop to new ≡ drop to old
  exchanged_end = ap (drop to) put ∙ ap (λ n. drop n (take from old ++ mid ++ drop to old)) at ∙ middle_ends from old mid (drop to old) (omega (arith, fits))

  exchanged_start : take from new ≡ take from old
  exchanged_start = ap (take from) put ∙ middle_starts from old mid (drop to old) (omega (arith, fits))

  pub exchanged_differs : IsDifference (map f old) (map f new) from to to
  exchanged_differs = record {
    old_starts = omega (arith, at);
    old_ends = omega (arith, at, fits, length-map old f);
    new_starts = omega (arith, at);
    new_ends = omega (arith, at, fits, length-map new f, exchanged_length);
    before = take-map f from old ∙ ap (map f) (sym exchanged_start) ∙ sym (take-map f from new);
    after = drop-map f to old ∙ ap (map f) (sym exchanged_end) ∙ sym (drop-map f to new);
  }

-- the keys of such a list
keys_around : {Q : Type 0} (f : Q → Key) (first last to : ℕ) (old mid : List Q) → to ≡ length old - last → map f (take first old) ++ map f mid ++ map f (drop to old) ≡ with_middle first last (map f mid) (map f old)
keys_around f first last to old mid at =
    let same : to ≡ length (map f old) - last = omega (arith, at, length-map old f) in
    λ i. sym (take-map f first old) i ++ map f mid ++ (sym (drop-map f to old) ∙ ap (λ n. drop n (map f old)) same) i

pub middle_keys : {Q : Type 0} (f : Q → Key) (first last to : ℕ) (old mid : List Q) → to ≡ length old - last → map f (take first old ++ mid ++ drop to old) ≡ with_middle first last (map f mid) (map f old)
middle_keys f first last to old mid at =
    map-append f (take first old ++ mid) (drop to old) ∙ ap (λ l. l ++ map f (drop to old)) (map-append f (take first old) mid) ∙ keys_around f first last to old mid at

-- one part pushed behind the other
pub middle_pushed : {Q : Type 0} (f : Q → Key) (first last to : ℕ) (old mid back : List Q) (none one two all : List Key) → none ≡ [] → one ≡ none ++ map f (take first old) → two ≡ one ++ map f mid → all ≡ two ++ map f back
    → back ≡ drop to old → to ≡ length old - last → all ≡ with_middle first last (map f mid) (map f old)
middle_pushed f first last to old mid back none one two all empty e1 e2 e3 is at =
    let front : one ≡ map f (take first old) = e1 ∙ ap (λ l. l ++ map f (take first old)) empty in
    e3 ∙ (λ i. (e2 ∙ ap (λ l. l ++ map f mid) front) i ++ map f (is i)) ∙ keys_around f first last to old mid at

-- a count over those that stay, and over all
pub counted_around : {Q : Type 0} (f : Q → Key) (p : Key → Bool) (first last b : ℕ) (xs : List Q) → first + last ≤ length xs → b ≡ length xs - last
    → count_by p (map f xs) ≡ (count_by p (take first (map f xs)) + count_by p (drop (length xs - last) (map f xs))) + count_by p (map f (slice_range xs first b))
counted_around f p first last b xs fits at =
    let parts = counted_parts p (map f xs) first (length xs - last) (omega (arith, fits)) in
    let same : count_by p (map f (slice_range xs first b)) ≡ count_by p (slice_range (map f xs) first (length xs - last)) = ap (count_by p) (part_keys f xs first b ∙ ap (λ n. slice_range (map f xs) first n) at) in
    omega (arith, parts, same)
