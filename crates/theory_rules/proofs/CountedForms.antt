-- Linear facts as they are counted, by the parts of their forms.
use Rattle.std.specs.Prelude.{◌≡◌, refl, zero, suc, ℤ, pos, negsuc, neg_ℤ, int_lt, Bool, true, false, option_map, if◌then◌else◌}
use Rattle.std.proofs.Common.{arith}
use Rattle.std.proofs.lemmas.Int.{ints}
use Rattle.logic_core.specs.Tree.{Tree, Parts, no_parts, part}
use Rattle.logic_core.specs.Sum.{Linear}
use Rattle.logic_core.specs.Combine.{lead, first_part}
use Rattle.theory_rules.specs.Combining.{opposite, Entry, counted}
use Rattle.theory_rules.specs.Counting.{counted_number, counted_parts}

parts_as : (turned : Bool) (s : Linear) → (if turned then opposite s else s).parts ≡ counted_parts turned s.parts
parts_as true s = refl
parts_as false s = refl

pub parts_counted : (e : Entry) → (counted e).parts ≡ counted_parts e.turned e.form.parts
parts_counted e = parts_as e.turned e.form

rest_as : (turned : Bool) (s : Linear) → (if turned then opposite s else s).rest ≡ counted_number turned s.rest
rest_as true s = refl
rest_as false s = refl

pub rest_counted : (e : Entry) → (counted e).rest ≡ counted_number e.turned e.form.rest
rest_counted e = rest_as e.turned e.form

first_as : (turned : Bool) (ps : Parts) → first_part (counted_parts turned ps) ≡ option_map (λ p. (counted_number turned p.0, p.1)) (first_part ps)
first_as true no_parts = refl
first_as true (part k t ps) = refl
first_as false no_parts = refl
first_as false (part k t ps) = refl

lead_as : (turned : Bool) (s : Linear) → lead (if turned then opposite s else s) ≡ option_map (λ p. (counted_number turned p.0, p.1)) (lead s)
lead_as true s = first_as true s.parts
lead_as false s = first_as false s.parts

pub lead_counted : (e : Entry) → lead (counted e) ≡ option_map (λ p. (counted_number e.turned p.0, p.1)) (lead e.form)
lead_counted e = lead_as e.turned e.form

pub counted_part : (turned : Bool) (k : ℤ) (t : Tree) (ps : Parts) → counted_parts turned (part k t ps) ≡ part (counted_number turned k) t (counted_parts turned ps)
counted_part true k t ps = refl
counted_part false k t ps = refl

-- the sign of a turned number
pub turned_above : (k : ℤ) → int_lt (pos 0) (neg_ℤ k) ≡ int_lt k (pos 0)
turned_above (pos zero) = refl
turned_above (pos (suc n)) = grind (arith, ints)
turned_above (negsuc n) = grind (arith, ints)

pub turned_below : (k : ℤ) → int_lt (neg_ℤ k) (pos 0) ≡ int_lt (pos 0) k
turned_below (pos zero) = refl
turned_below (pos (suc n)) = grind (arith, ints)
turned_below (negsuc n) = grind (arith, ints)
