-- The program of a text: what stands before its first line %%.
use Rattle.std.specs.Prelude.{ℕ, nat_eq, Bool, cond, List, [], ◌∷◌, ◌++◌, bytes_eq, codes}

abbrev pub is_feed : ℕ → Bool
is_feed b = nat_eq b 10

-- a byte joins the first piece
abbrev pub onto : ℕ → List (List ℕ) → List (List ℕ)
onto b [] = (b ∷ []) ∷ []
onto b (p ∷ ps) = (b ∷ p) ∷ ps

-- the text in pieces, cut behind each line feed
abbrev pub pieces : List ℕ → List (List ℕ)
pieces [] = []
pieces (b ∷ bs) = cond (is_feed b) ((b ∷ []) ∷ pieces bs) (onto b (pieces bs))

-- what stands before the first line feed
abbrev pub without_feed : List ℕ → List ℕ
without_feed [] = []
without_feed (b ∷ bs) = cond (is_feed b) [] (b ∷ without_feed bs)

-- the piece is the line %%
abbrev pub is_mark : List ℕ → Bool
is_mark piece = bytes_eq (without_feed piece) (codes "%%")

-- the bytes of the pieces before the mark, of all where there is none
abbrev pub before_mark : List (List ℕ) → List ℕ
before_mark [] = []
before_mark (p ∷ ps) = cond (is_mark p) [] (p ++ before_mark ps)

-- all of the text where there is no such line
abbrev pub program_in : List ℕ → List ℕ
program_in text = before_mark (pieces text)
