-- Linear facts as they are counted, by the parts of their forms.
use Rattle.std.specs.Prelude.{ℤ, neg_ℤ, int_le, Bool, ◌&&◌, if◌then◌else◌}
use Rattle.logic_core.specs.Tree.{Parts}
use Rattle.logic_core.specs.Same.{same_parts}
use Rattle.logic_core.specs.Sum.{Linear}
use Rattle.theory_rules.specs.Combining.{opposite_parts, Entry, counted}

-- a number, or its opposite where it is turned
abbrev pub counted_number : Bool → ℤ → ℤ
counted_number turned k = if turned then neg_ℤ k else k

abbrev pub counted_parts : Bool → Parts → Parts
counted_parts turned ps = if turned then opposite_parts ps else ps

-- the fact has the same parts as this form, and a constant no greater
abbrev pub has_no_greater : Linear → Entry → Bool
has_no_greater s e = same_parts (counted e).parts s.parts && int_le (counted e).rest s.rest
