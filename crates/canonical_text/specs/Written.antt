-- A line as it is written, token by token.
use Rattle.std.specs.Prelude.{◌≡◌, ℕ, Bool, true, ◌||◌, List, [], ◌∷◌, ◌++◌, codes, replicate, cond, Option, Some, IfSome, option_map}
use Rattle.canonical_text.specs.Glyph.{Glyph}

-- the text so far, and whether no space stands before what comes next
pub record Written : Type 0 where
  pub text : List ℕ
  pub glued : Bool

unfoldable pub add : Written → Glyph → Written
add w g = record { text = w.text ++ (cond (w.glued || g.tight) [] (codes " ") ++ g.text); glued = g.glued }

abbrev pub written : Written → List Glyph → Written
written w [] = w
written w (g ∷ gs) = written (add w g) gs

abbrev pub begun : ℕ → Written
begun indent = record { text = replicate indent 32; glued = true }

-- A line that is given up, for want of memory, is None. What writing tokens makes of a line: if it is not given up,
-- then it wasn't before, and they stand behind what it held.
pub record Adds (before : Option Written) (gs : List Glyph) (after : Option Written) : Type 0 where
  pub stands : IfSome after (λ w. option_map (λ b. written b gs) before ≡ Some w)
