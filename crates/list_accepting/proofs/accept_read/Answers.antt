-- One law for each way out.
use Rattle.std.proofs.Common.{rules}
use Rattle.list_accepting.proofs.Verdicts.{list_refused, version_refused, both_accepted}
use Rattle.version.specs.Reading.{without_word}
use Rattle.list_accepting.proofs.accept_read.Goals as goal

pub returns-in_err-held : goal.returns-in_err-held
returns-in_err-held c =
    let h = list_refused c.args.list.now c.args.text.now (without_word c.read-read.result) c.accept_version.result c.map_err.result c.read-read.ensures.fields.is
    c.accept_version.ensures c.map_err.ensures.cases in
    search (h, rules, c.in_err-held.was)

pub returns-in-Accepted : goal.returns-in-Accepted
returns-in-Accepted c =
    both_accepted c.args.list.now c.args.text.now (without_word c.read-read.result) c.accept_version.result c.map_err.result c.read-read.ensures.fields.is
    c.accept_version.ensures c.map_err.ensures.cases c.in_ok-held.held c.in_ok-held.was c.in-Accepted.is

pub returns-in-Refused : goal.returns-in-Refused
returns-in-Refused c =
    version_refused c.args.list.now c.args.text.now (without_word c.read-read.result) c.accept_version.result c.map_err.result c.read-read.ensures.fields.is
    c.accept_version.ensures c.map_err.ensures.cases c.in_ok-held.held c.in_ok-held.was c.in-Refused.refusal c.in-Refused.is
