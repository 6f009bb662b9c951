use Rattle.guest_rules.specs.MakeRoom.{make_room}
use Rattle.guest_rules.proofs.Rows.AnswerLaws.{any_disk, seen_alone}
use Rattle.guest_rules.proofs.Rows.RoomAnswers.{make_room-says}
use Rattle.guest_reclaim.proofs.room.make_room.Goals as goal

pub returns-clause-answer : goal.returns-clause-answer
returns-clause-answer g c written =
    let call = c.run_make_room in
    let program = make_room c.args.parts.now c.args.cpu in
    let seen = seen_alone g.St.Storage.step g.St.Storage.view g.met.St.Storage.meets program c.args.st.now (call.new.parts, call.result) call.new.st call.ensures.row in
    make_room-says c.args.parts.now c.args.cpu _ any_disk call.new.parts call.result _ any_disk c.requires.can written seen
