-- Which bytes are a proof's text, and the place at which other bytes are bad: the end of the longest prefix with which some proof's text begins.
use Rattle.std.specs.Prelude.{◌≡◌, ℕ, ◌+◌, ◌^◌, ◌≤◌, ◌<◌, nat_lt, Bool, true, ◌&&◌, IsTrue, List, [], ◌∷◌, ◌++◌, length, take}
use Rattle.std.specs.List.{list_all}
use Rattle.logic_core.specs.Tree.{Tree, num, truth, free, bound, linear, mul, read, write, choose, call, negation, all, some, equal, at_most, for_all, exists, Trees, no_trees, tree, Parts, no_parts, part, Patterns, no_patterns, pattern}
use Rattle.logic_core.specs.Wide.{fits}
use Rattle.proof_core.specs.Proof.{Step, by_split, by_instantiate, by_skolem, by_replace, by_unfold, by_back, by_differ, by_combine, by_tighten, Proof, proof, Proofs, no_proofs, one_proof, End, by_close, by_cases, by_condition, by_past, by_trichotomy}
use Rattle.proof_text.specs.Text.{proof_text}

-- numbers of facts, variables and definitions have 64 bits, and every other number 128
abbrev pub is_number : ℕ → Bool
is_number n = nat_lt n (2 ^ 64)

-- no number in the term leaves its type
abbrev mutual
  pub term_fits : Tree → Bool
  term_fits (num n) = fits n
  term_fits (truth b) = true
  term_fits (free v) = is_number v
  term_fits (bound v) = is_number v
  term_fits (linear ps c) = parts_fit ps && fits c
  term_fits (mul x y) = term_fits x && term_fits y
  term_fits (read x y) = term_fits x && term_fits y
  term_fits (write x y z) = term_fits x && (term_fits y && term_fits z)
  term_fits (choose x y z) = term_fits x && (term_fits y && term_fits z)
  term_fits (call f ts) = is_number f && terms_fit ts
  term_fits (negation x) = term_fits x
  term_fits (all ts) = terms_fit ts
  term_fits (some ts) = terms_fit ts
  term_fits (equal x y) = term_fits x && term_fits y
  term_fits (at_most x y) = term_fits x && term_fits y
  term_fits (for_all ss ps t) = triggers_fit ps && term_fits t
  term_fits (exists ss ps t) = triggers_fit ps && term_fits t

  pub terms_fit : Trees → Bool
  terms_fit no_trees = true
  terms_fit (tree t ts) = term_fits t && terms_fit ts

  pub parts_fit : Parts → Bool
  parts_fit no_parts = true
  parts_fit (part k t ps) = fits k && (term_fits t && parts_fit ps)

  pub triggers_fit : Patterns → Bool
  triggers_fit no_patterns = true
  triggers_fit (pattern ts ps) = terms_fit ts && triggers_fit ps

abbrev pub step_fits : Step → Bool
step_fits (by_split f) = is_number f
step_fits (by_instantiate f ts) = is_number f && list_all term_fits ts
step_fits (by_skolem f) = is_number f
step_fits (by_replace f g t) = is_number f && (is_number g && term_fits t)
step_fits (by_unfold f t) = is_number f && term_fits t
step_fits (by_back f t) = is_number f && term_fits t
step_fits (by_differ f) = is_number f
step_fits (by_combine f p g q) = is_number f && (fits p && (is_number g && fits q))
step_fits (by_tighten f) = is_number f

abbrev pub steps_fit : List Step → Bool
steps_fit [] = true
steps_fit (s ∷ ss) = step_fits s && steps_fit ss

abbrev mutual
  pub proof_fits : Proof → Bool
  proof_fits (proof ss e) = steps_fit ss && end_fits e

  pub end_fits : End → Bool
  end_fits (by_close f g) = is_number f && is_number g
  end_fits (by_cases f p ps) = is_number f && (proof_fits p && proofs_fit ps)
  end_fits (by_condition f t p q) = is_number f && (term_fits t && (proof_fits p && proof_fits q))
  end_fits (by_past t p q r) = term_fits t && (proof_fits p && (proof_fits q && proof_fits r))
  end_fits (by_trichotomy t p q r) = term_fits t && (proof_fits p && (proof_fits q && proof_fits r))

  pub proofs_fit : Proofs → Bool
  proofs_fit no_proofs = true
  proofs_fit (one_proof p ps) = proof_fits p && proofs_fit ps

-- the bytes are the proof's text
pub record Spells (bytes : List ℕ) (p : Proof) : Type 0 where
  pub in_range : IsTrue (proof_fits p)
  pub text : bytes ≡ proof_text p

abbrev pub BeginsOne : List ℕ → Type 0
BeginsOne bytes = (p : Proof) × (rest : List ℕ) × Spells (bytes ++ rest) p

-- the bytes are no proof's text, and bad at this place
pub record IsBadAt (bytes : List ℕ) (place : ℕ) : Type 0 where
  pub no_text : (p : Proof) → ¬ Spells bytes p
  pub within : place ≤ length bytes
  pub good : BeginsOne (take place bytes)
  pub longest : place < length bytes → ¬ BeginsOne (take (place + 1) bytes)

-- a proof has one text, and a text is that of one proof
abbrev pub OneProofATextHas : Type 0
OneProofATextHas = (bytes : List ℕ) (p q : Proof) → Spells bytes p → Spells bytes q → p ≡ q

-- bytes are bad at one place alone
abbrev pub OneBadPlace : Type 0
OneBadPlace = (bytes : List ℕ) (a b : ℕ) → IsBadAt bytes a → IsBadAt bytes b → a ≡ b
