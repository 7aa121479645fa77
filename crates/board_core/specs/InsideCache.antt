-- What a cache's fields stand for, and what holds of them.
use Rattle.std.specs.Prelude.{◌≡◌, ℕ, ◌≤◌, List, map, length, IsFalse, bytes_eq}
use Rattle.std.specs.Arc.{arc_value}
use Rattle.std.specs.List.{IsDistinct, AllByRecursion}
use Rattle.indexmap.specs.IndexMap.{spare}
use Rattle.bv_base.specs.Text.{is_among}
use Rattle.board_core.specs.Kept.{Key, Cached, kept_keys}
use Rattle.board_core.specs.declared.cache.Cache.TheInside.{Inside}

abbrev pub cached : {A Q : Type 0} → Inside A Q → Cached A
cached c = record { kept = map (λ e. (e.0.items, arc_value e.1)) c.kept.entries; places = map (λ k. k.items) c.places.items }

module _ {A : Type 0} (key_of : A → Key) (Right : A → Type 0) where
  -- each place has room for its answer; no key has two places; each answer is a right one of its key
  pub record IsStored (spare : ℕ) (c : Cached A) : Type 0 where
    pub room : length c.places ≤ spare
    pub apart : IsDistinct bytes_eq c.places
    pub waits : AllByRecursion (λ k. IsFalse (is_among (kept_keys c.kept) k)) c.places
    pub right : AllByRecursion (λ e. (key_of e.1 ≡ e.0) × Right e.1) c.kept

  abbrev pub IsKept : {Q : Type 0} → Inside A Q → Type 0
  IsKept c = IsStored (spare c.kept) (cached c)
