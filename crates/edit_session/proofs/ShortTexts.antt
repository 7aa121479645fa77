-- Texts whose bytes can be told by numbers of 32 bits.
use Rattle.std.proofs.Common.{◌≡◌, ℕ, ◌-◌, ◌^◌, ◌<◌, nat_lt, true, List, [], ◌∷◌, map, length, string_bytes, All}
use Rattle.std.specs.List.{AllByRecursion, list_all}
use Rattle.std.proofs.lemmas.Bool.{ltb-true}
use Rattle.std.proofs.lemmas.List.Elements.{All-from_recursion}
use Rattle.logic_core.proofs.Booleans.{both_true}
use Rattle.request_text.specs.declared.request.Put.{Put}
use Rattle.request_text.specs.RequestView.{put_view}

abbrev IsShort : List ℕ → Type 0
IsShort text = length text < 2 ^ 32 - 1

pub open_short : (text : List ℕ) → nat_lt (length text) (2 ^ 32 - 1) ≡ true → All IsShort (text ∷ [])
open_short text e = All-from_recursion IsShort (text ∷ []) (ltb-true _ _ e, tt)

each_short : (ps : List Put) → list_all (λ (p : Put). nat_lt (length (string_bytes p.text)) (2 ^ 32 - 1)) ps ≡ true → AllByRecursion IsShort (map (λ p. p.text) (map put_view ps))
each_short [] e = tt
each_short (p ∷ ps) e = let parts = both_true _ _ e in (ltb-true _ _ parts.0, each_short ps parts.1)

pub edit_short : (ps : List Put) → list_all (λ (p : Put). nat_lt (length (string_bytes p.text)) (2 ^ 32 - 1)) ps ≡ true → All IsShort (map (λ p. p.text) (map put_view ps))
edit_short ps e = All-from_recursion IsShort (map (λ p. p.text) (map put_view ps)) (each_short ps e)

pub others_short : All IsShort []
others_short = All-from_recursion IsShort [] tt
