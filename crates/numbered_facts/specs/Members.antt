-- Numbers, each once: a few are compared one by one, and more are looked up in an index.
use Rattle.std.specs.Prelude.{◌≡◌, ℕ, ◌≤◌, ◌⊎◌, List, length}
use Rattle.numbered_facts.specs.Atoms.{AreOnce}

-- they are a few, or the index has them
abbrev pub AreFound : List ℕ → List ℕ → Type 0
AreFound is keys = (length is ≤ 16) ⊎ (keys ≡ is)

pub record AreMembers (is keys : List ℕ) : Type 0 where
  pub once : AreOnce is
  pub found : AreFound is keys
