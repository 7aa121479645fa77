use Rattle.std.proofs.Common.{◌≡◌, not, bytes_eq, ap, ◌∙◌}
use Rattle.std.specs.List.{list_any}
use Rattle.request_text.specs.Names.{names_seen}
use Rattle.request_text.proofs.SeenNames.{any_seen}
use Rattle.request_text.proofs.names.Seen.is_new.Goals as goal

pub returns-clause-new : goal.returns-clause-new
returns-clause-new c =
    let seen : names_seen c.self.inside.names.keys ≡ c.args.self.now = cc in
    c.in_ok-new.ensures.added ∙ ap not (any_seen (bytes_eq c.args.name.now) c.self.inside.names.keys ∙ ap (list_any (bytes_eq c.args.name.now)) seen)
