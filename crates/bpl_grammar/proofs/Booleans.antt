-- Laws of truth values.
use Rattle.std.proofs.Common.{◌≡◌, refl, Bool, true, false, ◌&&◌, ◌||◌, not, IsTrue}

pub no_not : (b : Bool) → IsTrue (not b) → b ≡ false
no_not true h = absurd (cc)
no_not false h = refl

pub and_parts : (a b : Bool) → IsTrue (a && b) → IsTrue a × IsTrue b
and_parts true b h = (refl, h)
and_parts false b h = absurd (cc)

pub and_first : (a b : Bool) → IsTrue (a && b) → IsTrue a
and_first true b h = refl
and_first false b h = absurd (cc)

pub and_second : (a b : Bool) → IsTrue (a && b) → IsTrue b
and_second true b h = h
and_second false b h = absurd (cc)

pub and_both : (a b : Bool) → IsTrue a → IsTrue b → IsTrue (a && b)
and_both true b h k = k
and_both false b h k = absurd (cc)

pub or_first : (a b : Bool) → IsTrue a → IsTrue (a || b)
or_first true b h = refl
or_first false b h = absurd (cc)

pub or_second : (a b : Bool) → IsTrue b → IsTrue (a || b)
or_second true b h = refl
or_second false b h = h

pub no_and_second : (a b : Bool) → b ≡ false → (a && b) ≡ false
no_and_second true b h = h
no_and_second false b h = refl

pub no_and_first : (a b : Bool) → a ≡ false → (a && b) ≡ false
no_and_first true b h = absurd (cc)
no_and_first false b h = refl

pub none_of : (a b : Bool) → a ≡ false → b ≡ false → (a || b) ≡ false
none_of true b h k = absurd (cc)
none_of false b h k = k

pub neither : (a b : Bool) → (a || b) ≡ false → (a ≡ false) × (b ≡ false)
neither true b h = absurd (cc)
neither false b h = (refl, h)

pub or_same : (a b c d : Bool) → a ≡ c → b ≡ d → (a || b) ≡ (c || d)
or_same a b c d p q = λ i. p i || q i

pub or_none : (b : Bool) → b ≡ (b || false)
or_none true = refl
or_none false = refl
