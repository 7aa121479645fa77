-- Answers kept by key, in the order in which they were kept, and the places that wait for an answer.
use Rattle.std.specs.Prelude.{ℕ, nat_lt, Bool, ◌||◌, not, cond, List, [], ◌∷◌, ◌++◌, map, length, filter, find, Option, bytes_eq}
use Rattle.std.specs.Option.{option_map}
use Rattle.std.specs.List.{sum_by}
use Rattle.bv_base.specs.Text.{is_among}
use Rattle.board_core.specs.Limits.{absent_limit}

-- a key is its bytes
abbrev pub Key : Type 0
Key = List ℕ

-- the kept answers with their keys, and the keys whose places wait for an answer
pub record Cached (A : Type 0) : Type 0 where
  pub kept : List (Key × A)
  pub places : List Key

abbrev pub kept_keys : {A : Type 0} → List (Key × A) → List Key
kept_keys es = map (λ e. e.0) es

-- the kept answer of a key
abbrev pub kept_at : {A : Type 0} → List (Key × A) → Key → Option A
kept_at es k = option_map (λ e. e.1) (find (λ e. bytes_eq k e.0) es)

-- the key has a place, with an answer or without
abbrev pub has_place : {A : Type 0} → Cached A → Key → Bool
has_place c k = is_among (kept_keys c.kept) k || is_among c.places k

-- the keys but for this one
abbrev pub without_key : Key → List Key → List Key
without_key k ks = filter (λ j. not (bytes_eq k j)) ks

-- after a place is made for the key, unless it has one
abbrev pub with_place : {A : Type 0} → Cached A → Key → Cached A
with_place c k = cond (has_place c k) c (record c { places = c.places ++ k ∷ [] })

-- an answer joins the kept ones, unless its key has one
abbrev pub with_answer : {A : Type 0} → List (Key × A) → Key → A → List (Key × A)
with_answer es k a = cond (is_among (kept_keys es) k) es (es ++ (k, a) ∷ [])

-- how many bytes the keys have together
abbrev pub key_bytes : {A : Type 0} → List (Key × A) → ℕ
key_bytes kept = sum_by (λ e. length e.0) kept

-- how many bytes the keys have that are not present
abbrev pub absent_bytes : {A : Type 0} → List Key → List (Key × A) → ℕ
absent_bytes present kept = sum_by (λ e. length e.0) (filter (λ e. not (is_among present e.0)) kept)

-- the answers of absent keys go exactly where these keys have more bytes together than the limit
abbrev pub trimmed : {A : Type 0} → List Key → List (Key × A) → List (Key × A)
trimmed present kept = cond (nat_lt absent_limit (absent_bytes present kept)) (filter (λ e. is_among present e.0) kept) kept
