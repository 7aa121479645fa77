-- What a line leads to, and its digests.
use Rattle.std.proofs.Common.{◌≡◌, ◌∙◌, ℕ, zero, suc, ◌+◌, ◌<◌, ◌≤◌, Bool, true, false, cond, List, [], ◌∷◌, ◌++◌, map, length, filter, refl, sym, ap, subst, arith}
use Rattle.std.specs.Prelude.{flat_map, slice_index_or}
use Rattle.std.specs.List.{AllByRecursion, range_with_len}
use Rattle.std.proofs.lemmas.List.{append_assoc}
use Rattle.sha2.specs.Sha256.{sha256}
use Rattle.bpl_model.specs.Module.{DeclText, Module}
use Rattle.bpl_model.specs.Reach.{decl_at}
use Rattle.bpl_scopes.specs.Scopes.{Text, Table}
use Rattle.bpl_texts.specs.Uses.{leads_of, is_declared_at}
use Rattle.stmt_checksum.specs.ContractDigests.{digests_of, digest_at}
use Rattle.stmt_checksum.specs.Chain.{contract_sums}

-- ---- the digest of a declaration is that of its text

abbrev nothing : DeclText
nothing = record { name = []; text = []; contract = []; leads = []; contract_leads = [] }

at_map : (ts : List DeclText) (d : ℕ) → digest_at (digests_of ts) d ≡ sha256 (slice_index_or ts d nothing).contract
at_map [] d = refl
at_map (t ∷ ts) zero = refl
at_map (t ∷ ts) (suc d) = at_map ts d

pub digests_are : (m : Module) (ds : List ℕ) → flat_map (digest_at (digests_of m.texts)) ds ≡ contract_sums m ds
digests_are m [] = refl
digests_are m (d ∷ ds) = λ i. at_map m.texts d i ++ digests_are m ds i

-- ---- what names lead to is there

kept : (P : ℕ → Type 0) (x : ℕ) (xs : List ℕ) (b : Bool) → P x → AllByRecursion P xs → AllByRecursion P (cond b (x ∷ xs) xs)
kept P x xs true h rest = (h, rest)
kept P x xs false h rest = rest

filtered : (P : ℕ → Type 0) (p : ℕ → Bool) (xs : List ℕ) → AllByRecursion P xs → AllByRecursion P (filter p xs)
filtered P p [] a = a
filtered P p (x ∷ xs) a = kept P x (filter p xs) (p x) a.0 (filtered P p xs a.1)

counted : (from n count : ℕ) → from + n ≤ count → AllByRecursion (λ d. d < count) (range_with_len from n)
counted from zero count h = tt
counted from (suc n) count h = (omega (arith, h), counted (from + 1) n count (omega (arith, h)))

pub leads_there : (t : Table) (count : ℕ) (ns : List Text) → AllByRecursion (λ d. d < count) (leads_of t count ns)
leads_there t count ns = filtered (λ d. d < count) _ (range_with_len 0 count) (counted 0 count count (omega arith))
