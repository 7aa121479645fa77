use Rattle.std.proofs.Common.{map, string_bytes}
use Rattle.clap.specs.Words.{fault_of, matches_of}
use Rattle.command_words.specs.CommandLine.{the_command}
use Rattle.command_words.proofs.Refused.{refused}
use Rattle.command_words.proofs.reading.read_words.Goals as goal

pub returns-in_err-matches-clause-refused : goal.returns-in_err-matches-clause-refused
returns-in_err-matches-clause-refused c =
    let words = map string_bytes c.args.words.now in
    refused c.from_residual.result (fault_of the_command words) (matches_of the_command words) c.in_err-matches.field-0.0
    c.in_err-matches.ensures.fails c.from_residual.ensures.1
