-- No reply has a float.
use Rattle.std.proofs.Common.{◌≡◌, false, ◌||◌, List, [], ◌∷◌, refl, ap}
use Rattle.serde_json.specs.Written.{has_float, items_have_float}
use Rattle.request_text.specs.Request.{Text, Reply, accepted, counted, reported, summed, proved, ended, refused, memory, absent, misnamed, fault}
use Rattle.request_text.specs.Replies.{strings, value_of}

in_strings : (ls : List Text) → items_have_float (strings ls) ≡ false
in_strings [] = refl
in_strings (l ∷ ls) = in_strings ls

pub no_float : (r : Reply) → has_float (value_of r) ≡ false
no_float (accepted goals rebuilt version) = refl
no_float (counted done pending version) = refl
no_float (reported ls version) = ap (λ b. b || false) (in_strings ls)
no_float (summed ls version) = ap (λ b. b || false) (in_strings ls)
no_float (proved ls version) = ap (λ b. b || false) (in_strings ls)
no_float ended = refl
no_float (refused why) = refl
no_float memory = refl
no_float (absent name) = refl
no_float (misnamed name) = refl
no_float (fault kind decl line col word) = refl
