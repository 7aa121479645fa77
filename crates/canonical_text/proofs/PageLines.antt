-- Lines that end: at the end of a page, or alone.
use Rattle.std.specs.Prelude.{◌≡◌, ℕ, List, [], ◌∷◌, ◌++◌, Option, Some, None, option_map, Result, Ok, Err, OnOk}
use Rattle.std.proofs.Common.{subst}
use Rattle.canonical_text.specs.Glyph.{Glyph, line}
use Rattle.canonical_text.specs.Written.{Written, written, begun, Adds}
use Rattle.canonical_text.proofs.WrittenLines.{adds, line_written}

pub line_added : (n : ℕ) (gs : List Glyph) (l : Option Written) (old new : List (List ℕ)) → Adds (Some (begun n)) gs l → option_map (λ w. old ++ w.text ∷ []) l ≡ Some new → new ≡ old ++ line n gs ∷ []
line_added n gs None old new h k = cc
line_added n gs (Some w) old new h k = cc (h.stands, k, line_written n gs)

pub line_of_two : (n : ℕ) (gs hs all : List Glyph) (a l : Option Written) (old new : List (List ℕ)) → Adds (Some (begun n)) gs a → Adds a hs l → option_map (λ w. old ++ w.text ∷ []) l ≡ Some new → gs ++ hs ≡ all → new ≡ old ++ line n all ∷ []
line_of_two n gs hs all a l old new p q k same = subst (λ x. new ≡ old ++ line n x ∷ []) same (line_added n (gs ++ hs) l old new (adds p q) k)

pub line_of_three : (n : ℕ) (gs hs is all : List Glyph) (a b l : Option Written) (old new : List (List ℕ)) → Adds (Some (begun n)) gs a → Adds a hs b → Adds b is l → option_map (λ w. old ++ w.text ∷ []) l ≡ Some new → gs ++ (hs ++ is) ≡ all → new ≡ old ++ line n all ∷ []
line_of_three n gs hs is all a b l old new p q r k same = subst (λ x. new ≡ old ++ line n x ∷ []) same (line_added n (gs ++ (hs ++ is)) l old new (adds p (adds q r)) k)

pub line_alone : (n : ℕ) (gs hs all : List Glyph) (a l : Option Written) (text : List ℕ) → Adds (Some (begun n)) gs a → Adds a hs l → option_map (λ w. w.text) l ≡ Some text → gs ++ hs ≡ all → text ≡ line n all
line_alone n gs hs all a None text p q k same = cc
line_alone n gs hs all a (Some w) text p q k same = cc (line_written n (gs ++ hs), (adds p q).stands, k, same)

pub line_on_page : {T E : Type 0} {gs : List Glyph} {l : Option Written} (n : ℕ) (old new : List (List ℕ)) (r : Result T E) → Adds (Some (begun n)) gs l → OnOk r (option_map (λ w. old ++ w.text ∷ []) l ≡ Some new) → OnOk r (new ≡ old ++ line n gs ∷ [])
line_on_page {gs = gs} {l = l} n old new (Ok u) h k = line_added n gs l old new h k
line_on_page n old new (Err e) h k = tt

pub ruleset lines = (line_added, line_of_two, line_of_three, line_alone)
