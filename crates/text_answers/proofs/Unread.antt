-- Where nothing is read, no more than the total is.
use Rattle.std.proofs.Common.{ℕ, List, [], Option, Some, None, refl, arith}
use Rattle.text_answers.specs.Answered.{IsWithin}

pub none_within : (left : Option (List ℕ)) → IsWithin left left
none_within None = ([], omega arith, refl)
none_within (Some bytes) = ([], omega arith, refl)
