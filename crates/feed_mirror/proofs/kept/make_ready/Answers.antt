use Rattle.feed_mirror.proofs.RoomLemmas.{keeps_grow}
use Rattle.feed_mirror.proofs.kept.make_ready.Goals as goal

pub returns-in_err-make_room-clause-keeps : goal.returns-in_err-make_room-clause-keeps
returns-in_err-make_room-clause-keeps c = keeps_grow c.args.tables.now.items c.add_names.new.tables.items c.make_room.new.tables.items c.in_ok-add_names.ensures.rooms c.in_err-make_room.ensures.more

pub returns-in_err-push-clause-keeps : goal.returns-in_err-push-clause-keeps
returns-in_err-push-clause-keeps c = keeps_grow c.args.tables.now.items c.add_names.new.tables.items c.make_room.new.tables.items c.in_ok-add_names.ensures.rooms c.in_ok-make_room.ensures.more

pub returns-clause-keeps : goal.returns-clause-keeps
returns-clause-keeps c = keeps_grow c.args.tables.now.items c.add_names.new.tables.items c.make_room.new.tables.items c.in_ok-add_names.ensures.rooms c.in_ok-make_room.ensures.more
