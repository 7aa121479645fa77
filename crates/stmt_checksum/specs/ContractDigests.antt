-- The digests of declarations' texts, by position.
use Rattle.std.specs.Prelude.{ℕ, List, [], map, slice_index_or}
use Rattle.sha2.specs.Sha256.{sha256}
use Rattle.bpl_model.specs.Module.{DeclText}

abbrev pub digests_of : List DeclText → List (List ℕ)
digests_of ts = map (λ t. sha256 t.contract) ts

-- where there is no declaration, that of no bytes
abbrev pub digest_at : List (List ℕ) → ℕ → List ℕ
digest_at ks d = slice_index_or ks d (sha256 [])
