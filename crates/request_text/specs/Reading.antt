-- The request that a line is, over the JSON value that it reads as.
use Rattle.std.specs.Prelude.{ℕ, Bool, true, not, ◌&&◌, cond, nat_lt, List, [], ◌∷◌, ◌++◌, map, length, Option, Some, None, option_map, option_and_then, ok_or, Result, Err, bytes_eq, codes}
use Rattle.std.specs.List.{list_any}
use Rattle.std.specs.Str.{is_utf8}
use Rattle.serde_json.specs.Data.{Data, Items, no_items, item}
use Rattle.serde_json.specs.Find.{get, as_str, as_array}
use Rattle.serde_json.specs.Read.{read}
use Rattle.request_text.specs.Request.{Text, Put, Request, open_text, edit, status, report, sums, proofs, quit, BadRequest, bad_json, bad_op, bad_field, too_long}

-- a line that is read has so many bytes at most
abbrev pub longest : ℕ
longest = 1_048_576

-- the text that stands at a key; a value that is no object has none
abbrev pub text_at : Text → Data → Option Text
text_at k d = option_and_then as_str (get k d)

-- of each item, where it has one
abbrev pub of_each : {A : Type 0} → (Data → Option A) → Items → Option (List A)
of_each f no_items = Some []
of_each f (item d ds) = option_and_then (λ a. option_map (λ rest. a ∷ rest) (of_each f ds)) (f d)

-- these and the rest, where there is one
abbrev pub with_rest : {A : Type 0} → List A → Option (List A) → Option (List A)
with_rest all rest = option_map (λ more. all ++ more) rest

-- an array that may be absent for an empty one
abbrev pub list_at : {A : Type 0} → (Data → Option A) → Option Data → Option (List A)
list_at f None = Some []
list_at f (Some d) = option_and_then (of_each f) (as_array d)

abbrev pub put_of : Data → Option Put
put_of d = option_and_then (λ n. option_map (λ t. record { name = n; text = t }) (text_at (codes "text") d)) (text_at (codes "name") d)

-- each name is new behind these and those before it
abbrev pub are_new : List Text → List Text → Bool
are_new seen [] = true
are_new seen (n ∷ ns) = not (list_any (bytes_eq n) seen) && are_new (seen ++ n ∷ []) ns

abbrev pub names_of : List Put → List Text
names_of ps = map (λ p. p.name) ps

-- no name stands twice among the puts and drops
abbrev pub unless_twice : List Put → List Text → Option Request
unless_twice ps ds = cond (are_new [] (names_of ps ++ ds)) (Some (edit ps ds)) None

abbrev pub edit_in : Data → Option Request
edit_in d = option_and_then (λ ps. option_and_then (unless_twice ps) (list_at as_str (get (codes "drop") d))) (list_at put_of (get (codes "put") d))

-- what an op asks for with these fields; no further field counts
abbrev pub asked : Data → List (Text × Option Request)
asked d =
    (codes "open", option_map open_text (text_at (codes "text") d))
    ∷ (codes "edit", edit_in d)
    ∷ (codes "status", Some status)
    ∷ (codes "report", Some report)
    ∷ (codes "sums", Some sums)
    ∷ (codes "proofs", Some proofs)
    ∷ (codes "quit", Some quit) ∷ []

abbrev pub with_fields : Option Request → Result Request BadRequest
with_fields r = ok_or r bad_field

abbrev pub chosen : Text → List (Text × Option Request) → Result Request BadRequest
chosen op [] = Err bad_op
chosen op (p ∷ ps) = cond (bytes_eq op p.0) (with_fields p.1) (chosen op ps)

abbrev pub of_op : Data → Option Text → Result Request BadRequest
of_op d None = Err bad_op
of_op d (Some op) = chosen op (asked d)

abbrev pub of_value : Data → Result Request BadRequest
of_value d = of_op d (text_at (codes "op") d)

abbrev pub of_read : Option Data → Result Request BadRequest
of_read None = Err bad_json
of_read (Some d) = of_value d

abbrev pub request_of : Text → Result Request BadRequest
request_of line = cond (nat_lt longest (length line)) (Err too_long) (cond (is_utf8 line) (of_read (read line)) (Err bad_json))
