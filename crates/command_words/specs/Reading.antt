-- The command that words are.
use Rattle.std.specs.Prelude.{ℕ, List, [], ◌∷◌, Option, Some, None, option_and_then, codes}
use Rattle.clap.specs.Words.{Row, matches_of, first_of, fault_of}
use Rattle.clap.specs.Kinds.{Kinds}
use Rattle.command_words.specs.Modes.{mode_named}
use Rattle.command_words.specs.Limits.{usual_turns, least_turns, most_turns, most_workers, last_seed, most_size}
use Rattle.command_words.specs.Options.{use_of_turns, use_of_workers, use_of_draws, given_number}
use Rattle.command_words.specs.CommandLine.{the_command}
use Rattle.command_words.specs.declared.command.Mode.{Mode}
use Rattle.command_words.specs.declared.command.Command.{Command}

abbrev pub turns_of : Mode → Option (List ℕ) → Option ℕ
turns_of mode given = given_number (use_of_turns mode) usual_turns least_turns most_turns given

abbrev pub workers_of : Mode → Option (List ℕ) → Option ℕ
workers_of mode given = given_number (use_of_workers mode) 0 0 most_workers given

abbrev pub seed_of : Mode → Option (List ℕ) → Option ℕ
seed_of mode given = given_number (use_of_draws mode) 0 0 last_seed given

abbrev pub size_of : Mode → Option (List ℕ) → Option ℕ
size_of mode given = given_number (use_of_draws mode) 0 0 most_size given

-- where the mode has a name, and each of the four options its number
abbrev pub command_of : List ℕ → Option (List ℕ) → Option (List ℕ) → Option (List ℕ) → Option (List ℕ) → Option Command
command_of name turns workers seed size =
    option_and_then (λ m.
    option_and_then (λ t.
    option_and_then (λ w.
    option_and_then (λ s.
    option_and_then (λ n. Some (record { mode = m; turns = t; workers = w; seed = s; size = n }))
    (size_of m size)) (seed_of m seed)) (workers_of m workers)) (turns_of m turns)) (mode_named name)

-- the command that matches are
abbrev pub of_rows : List Row → Option Command
of_rows rows =
    option_and_then (λ name. command_of name (first_of (codes "turns") rows) (first_of (codes "workers") rows)
    (first_of (codes "seed") rows) (first_of (codes "size") rows)) (first_of (codes "mode") rows)

-- where the simple command finds a fault in the words, they are no command; else its matches are read
abbrev pub unless_refused : Kinds → List Row → Option Command
unless_refused [] rows = of_rows rows
unless_refused (k ∷ ks) rows = None

abbrev pub reading : List (List ℕ) → Option Command
reading words = unless_refused (fault_of the_command words) (matches_of the_command words)
