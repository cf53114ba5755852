-- `call_listing::reader::read_limited` meets its contract.
-- Assumes nothing.
use Rattle.std.proofs.Common.{◌≡◌, Ok, Err, rules, sym, ◌∙◌, ap}
use borrow.Author.Tests.{lt-ltb, le-ltb}
use Rattle.chart.specs.declared.format.Refusal.TheVariants.{TooLarge}
use Rattle.theory_listing.specs.Grammar.{listed}
use Rattle.call_listing.specs.Extent.{Told}
use Rattle.call_listing.proofs.Steps.{limiting, limited-extent}
use Rattle.call_listing.proofs.reader.read_limited.Goals as goal

pub returns-in_err-all : goal.returns-in_err-all
returns-in_err-all c =
    let same : c.from_residual.result ≡ Err c.in_err-all.field-0.0 = search rules in
    same ∙ ap limiting (sym c.in_err-all.was ∙ c.read.ensures) ∙ limited-extent (listed c.args.s.now)

pub returns-then-all-gt-NODES : goal.returns-then-all-gt-NODES
returns-then-all-gt-NODES c =
    let all = c.in_ok-all.all in
    let here : ◌≡◌ {A = Told} (Err TooLarge) (limiting (Ok all)) = rw (lt-ltb 190 all.nodes c.if-all-gt-NODES.true) in
    here ∙ ap limiting (sym c.in_ok-all.was ∙ c.read.ensures) ∙ limited-extent (listed c.args.s.now)

pub returns-then-all-gt-CONSTRUCTS : goal.returns-then-all-gt-CONSTRUCTS
returns-then-all-gt-CONSTRUCTS c =
    let all = c.in_ok-all.all in
    let here : ◌≡◌ {A = Told} (Err TooLarge) (limiting (Ok all)) =
    rw (le-ltb 190 all.nodes c.if-all-gt-NODES.false, lt-ltb 48 all.constructs c.if-all-gt-CONSTRUCTS.true) in
    here ∙ ap limiting (sym c.in_ok-all.was ∙ c.read.ensures) ∙ limited-extent (listed c.args.s.now)

pub returns : goal.returns
returns c =
    let all = c.in_ok-all.all in
    let here : ◌≡◌ {A = Told} (Ok all) (limiting (Ok all)) =
    rw (le-ltb 190 all.nodes c.if-all-gt-NODES.false, le-ltb 48 all.constructs c.if-all-gt-CONSTRUCTS.false) in
    here ∙ ap limiting (sym c.in_ok-all.was ∙ c.read.ensures) ∙ limited-extent (listed c.args.s.now)
