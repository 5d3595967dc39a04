use Rattle.egg.proofs.Rooms.{room_generators, room_none, room_large, room_need, room_short, room_start}
use lib.Dec.{lit<}
use native.Mathlib.Nat.{lt_of_le_of_lt}
use Rattle.egg.proofs.has_room.Goals as goal

pub returns-then-n-gt8 : goal.returns-then-n-gt8
returns-then-n-gt8 c = room_generators c.args.len _ _ _ c.if-n-gt8.true

pub returns-then-room-eq0 : goal.returns-then-room-eq0
returns-then-room-eq0 c = room_none c.args.len _ _ _ c.if-n-gt8.false c.if-room-eq0.true

pub returns-then-room-gt65535 : goal.returns-then-room-gt65535
returns-then-room-gt65535 c = room_large c.args.len _ _ _ c.if-n-gt8.false c.if-room-eq0.false c.if-room-gt65535.true

pub overflow_mul-need : goal.overflow_mul-need
overflow_mul-need c = record { fits = lt_of_le_of_lt (room_need 0 0 _ _ c.if-n-gt8.false c.if-room-eq0.false c.if-room-gt65535.false _ c.width.ensures) (lit< tt) }

pub returns-then-len-need : goal.returns-then-len-need
returns-then-len-need c = room_short c.args.len _ _ _ c.if-n-gt8.false c.if-room-eq0.false c.if-room-gt65535.false _ c.width.ensures c.if-len-need.true

pub returns : goal.returns
returns c = room_start c.args.len _ _ _ c.if-n-gt8.false c.if-room-eq0.false c.if-room-gt65535.false _ c.width.ensures c.if-len-need.false
