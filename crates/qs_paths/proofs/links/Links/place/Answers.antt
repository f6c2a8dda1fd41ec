use Rattle.std.proofs.Common.{false}
use Rattle.std.specs.List.{list_any}
use Rattle.qs_paths_meaning.specs.inner.Links.{same_number}
use Rattle.qs_paths.proofs.LinkLaws.{put_leads, put_web}
use Rattle.qs_paths.proofs.Places.{is_absent, keys_with, stands_there}
use Rattle.qs_paths.proofs.links.Links.place.Goals as goal

pub returns-clause-web : goal.returns-clause-web
returns-clause-web c =
    let nodes = c.args.self.now.nodes.keys in
    let absent = is_absent (list_any (same_number c.args.node) nodes) c.in_ok-place.is_new c.in_ok-place.ensures.added c.if-not-is_new.false in
    put_web nodes c.insert_full.new.self.keys c.args.self.now.next.items c.push.new.self.items c.args.node c.new.result c.requires absent (keys_with false nodes c.insert_full.new.self.keys c.args.node absent c.in_ok-place.ensures.keys) c.in_ok-push.ensures.items c.new.ensures.items

pub returns-clause-leads : goal.returns-clause-leads
returns-clause-leads c =
    let nodes = c.args.self.now.nodes.keys in
    let absent = is_absent (list_any (same_number c.args.node) nodes) c.in_ok-place.is_new c.in_ok-place.ensures.added c.if-not-is_new.false in
    put_leads nodes c.insert_full.new.self.keys c.args.self.now.next.items c.push.new.self.items c.args.node c.new.result c.requires (keys_with false nodes c.insert_full.new.self.keys c.args.node absent c.in_ok-place.ensures.keys) c.in_ok-push.ensures.items c.new.ensures.items

pub returns-clause-at : goal.returns-clause-at
returns-clause-at c = let s = c.in_ok-place.ensures.stored in stands_there c.insert_full.new.self.keys c.args.node c.in_ok-place.place s.0 s.1 s.2
