-- The size of a command that words are is within bounds.
use Rattle.std.proofs.Common.{◌≡◌, ◌∙◌, ℕ, ◌≤◌, Bool, true, false, cond, List, [], ◌∷◌, Option, Some, None, refl, sym, ap, subst, arith}
use Rattle.std.specs.Prelude.{option_and_then, nat_le, ◌&&◌, if◌then◌else◌, codes}
use Rattle.std.proofs.lemmas.Bool.{and_parts, leb-true}
use Rattle.clap.specs.Words.{Row, first_of, matches_of, fault_of}
use Rattle.clap.specs.Kinds.{Kinds}
use Rattle.command_words.specs.Modes.{mode_named}
use Rattle.command_words.specs.Numbers.{number_of}
use Rattle.command_words.specs.Options.{given_number}
use Rattle.command_words.specs.CommandLine.{the_command}
use Rattle.command_words.specs.declared.options.Use.{Use}
use Rattle.command_words.specs.declared.options.Use.TheVariants.{NotTaken, Taken, Needed}
use Rattle.command_words.specs.Reading.{turns_of, workers_of, seed_of, size_of, command_of, of_rows, unless_refused, reading}
use Rattle.command_words.specs.declared.command.Command.{Command}
use Rattle.command_words.specs.Limits.{most_size}

bounded : (b : Bool) (least most k n : ℕ) → (nat_le least k && nat_le k most) ≡ b → (if b then Some k else None) ≡ Some n → n ≤ most
bounded true least most k n e is =
    let same : k ≡ n = cc in
    subst (λ x. x ≤ most) same (leb-true k most (and_parts (nat_le least k) (nat_le k most) e).1)
bounded false least most k n e is = absurd (cc)

between : (least most : ℕ) (o : Option ℕ) (n : ℕ) → option_and_then (λ k. if nat_le least k && nat_le k most then Some k else None) o ≡ Some n → n ≤ most
between least most None n is = absurd (cc)
between least most (Some k) n is = bounded (nat_le least k && nat_le k most) least most k n refl is

given_size : (u : Use) (given : Option (List ℕ)) (n : ℕ) → given_number u 0 0 most_size given ≡ Some n → n ≤ most_size
given_size NotTaken None n is = let zero_is : 0 ≡ n = cc in omega (arith, zero_is)
given_size NotTaken (Some t) n is = absurd (cc)
given_size Taken None n is = let zero_is : 0 ≡ n = cc in omega (arith, zero_is)
given_size Taken (Some t) n is = between 0 most_size (number_of t) n is
given_size Needed None n is = absurd (cc)
given_size Needed (Some t) n is = between 0 most_size (number_of t) n is

through : {A : Type 0} (f : A → Option Command) (o : Option A) (c : Command) → ((a : A) → o ≡ Some a → f a ≡ Some c → c.size ≤ most_size) → option_and_then f o ≡ Some c → c.size ≤ most_size
through f None c further is = absurd (cc)
through f (Some a) c further is = further a refl is

command_size : (name : List ℕ) (turns workers seed size : Option (List ℕ)) (c : Command) → command_of name turns workers seed size ≡ Some c → c.size ≤ most_size
command_size name turns workers seed size c is =
    through _ (mode_named name) c (λ m em a.
    through _ (turns_of m turns) c (λ t et b.
    through _ (workers_of m workers) c (λ w ew d.
    through _ (seed_of m seed) c (λ s es e.
    through _ (size_of m size) c (λ n en f.
    let same : n ≡ c.size = cc in
    subst (λ x. x ≤ most_size) same (given_size _ size n en)) e) d) b) a) is

rows_size : (rows : List Row) (c : Command) → of_rows rows ≡ Some c → c.size ≤ most_size
rows_size rows c is = through _ (first_of (codes "mode") rows) c (λ name e a.
    command_size name (first_of (codes "turns") rows) (first_of (codes "workers") rows) (first_of (codes "seed") rows) (first_of (codes "size") rows) c a) is

unless_size : (ks : Kinds) (rows : List Row) (c : Command) → unless_refused ks rows ≡ Some c → c.size ≤ most_size
unless_size [] rows c is = rows_size rows c is
unless_size (k ∷ ks) rows c is = absurd (cc)

pub read_size : (words : List (List ℕ)) (c : Command) → reading words ≡ Some c → c.size ≤ most_size
read_size words c is = unless_size (fault_of the_command words) (matches_of the_command words) c is
