-- What may go to another thread.
use denote.Param.Send.{IsSend, sendable, view_send, recorded_send, struct_send}
use denote.Struct.Declared.{shape}
use Rattle.std.proofs.Crossing.{crosses}
use Rattle.swim_disk.specs.contracts.backing.Deed as Deed
use Rattle.swim_disk.specs.contracts.cached.Span as Span
use Rattle.swim_disk.specs.contracts.file.FileDisk as FileDisk
use Rattle.swim_disk.specs.contracts.file.FileDisk.TheInside as FileInside
use Rattle.swim_disk.specs.contracts.open_file.OpenFile as OpenFile
use Rattle.swim_disk.specs.contracts.past.Call as Call
use Rattle.swim_node.proofs.Crosses.{Node-send}
use Rattle.swim_trace.proofs.Crosses.{Trace-send}
use Rattle.swim_join.specs.contracts.joiner.Joiner as Joiner
use Rattle.swim_join.specs.contracts.joiner.Joiner.TheInside as JoinerInside
use Rattle.swim_join.specs.contracts.news_log.News as News
use Rattle.swim_join.specs.contracts.news_log.News.TheInside as NewsInside
use Rattle.swim_join.specs.contracts.peers.Peers as Peers
use Rattle.swim_join.specs.contracts.peers.Peers.TheInside as PeersInside
use Rattle.swim_join.specs.contracts.sought.Sought as Sought
use Rattle.swim_join.specs.contracts.sought.Sought.TheInside as SoughtInside
use Rattle.swim_library.specs.contracts.running.Running as Running

pub Call-send : IsSend Call.the_row
Call-send = search (sendable, crosses) depth 60 fits 20000

pub Deed-send : IsSend Deed.the_row
Deed-send = search (sendable, crosses, Trace-send) depth 60 fits 20000

pub Span-send : IsSend Span.the_row
Span-send = search (sendable, crosses) depth 60 fits 20000

pub OpenFile-send : IsSend OpenFile.the_row
OpenFile-send = search (sendable, crosses, Trace-send, Deed-send) depth 60 fits 20000

pub FileDisk-send : IsSend FileDisk.the_row
FileDisk-send = view_send FileInside.the_row _ _ _ _ (recorded_send FileInside.the_field.row _ _ FileInside.the_type.to_one (struct_send (shape FileInside.the_type) (
  search (sendable, crosses) depth 60 fits 20000,
  (
    search sendable,
    (
      search (sendable, crosses, OpenFile-send) depth 60 fits 20000,
      (
        search (sendable, crosses) depth 60 fits 20000,
        (
          search (sendable, Trace-send, Call-send) depth 60 fits 20000,
          (
            search (sendable, crosses) depth 60 fits 20000,
            (
              search (sendable, crosses, Span-send) depth 60 fits 20000,
              (
                search sendable,
                (
                  search (sendable, Trace-send) depth 60 fits 20000,
                  (search (sendable, Trace-send) depth 60 fits 20000, tt),
                ),
              ),
            ),
          ),
        ),
      ),
    ),
  ),
))
    )

pub Peers-send : IsSend Peers.the_row
Peers-send = view_send PeersInside.the_row _ _ _ _ (recorded_send PeersInside.the_field.row _ _ PeersInside.the_type.to_one (struct_send (shape PeersInside.the_type) (search (sendable, crosses, Trace-send) depth 60 fits 20000, (search (sendable, crosses, Trace-send) depth 60 fits 20000, (search (sendable, crosses, Trace-send) depth 60 fits 20000, (search (sendable, crosses, Trace-send) depth 60 fits 20000, (search (sendable, crosses, Trace-send) depth 60 fits 20000, tt)))))))

pub News-send : IsSend News.the_row
News-send = view_send NewsInside.the_row _ _ _ _ (recorded_send NewsInside.the_field.row _ _ NewsInside.the_type.to_one (struct_send (shape NewsInside.the_type) (search (sendable, crosses, Trace-send) depth 60 fits 20000, (search (sendable, crosses, Trace-send) depth 60 fits 20000, (search (sendable, crosses, Trace-send) depth 60 fits 20000, tt)))))

pub Sought-send : IsSend Sought.the_row
Sought-send = view_send SoughtInside.the_row _ _ _ _ (recorded_send SoughtInside.the_field.row _ _ SoughtInside.the_type.to_one (struct_send (shape SoughtInside.the_type) (search (sendable, crosses) depth 60 fits 20000, tt)))

pub Joiner-send : IsSend Joiner.the_row
Joiner-send = view_send JoinerInside.the_row _ _ _ _ (recorded_send JoinerInside.the_field.row _ _ JoinerInside.the_type.to_one (struct_send (shape JoinerInside.the_type) (search (sendable, crosses, Trace-send) depth 60 fits 20000, (search (sendable, crosses, Trace-send) depth 60 fits 20000, (search (sendable, Peers-send), (search (sendable, crosses, Trace-send) depth 60 fits 20000, (search (sendable, crosses, Trace-send) depth 60 fits 20000, (search (sendable, crosses, Trace-send) depth 60 fits 20000, (search (sendable, crosses, Trace-send) depth 60 fits 20000, (search (sendable, crosses, Trace-send) depth 60 fits 20000, (search (sendable, crosses, Trace-send) depth 60 fits 20000, (search (sendable, crosses, Trace-send) depth 60 fits 20000, (search (sendable, Sought-send), (search (sendable, News-send), (search (sendable, crosses, Trace-send) depth 60 fits 20000, (search (sendable, crosses, Trace-send) depth 60 fits 20000, (search (sendable, crosses, Trace-send) depth 60 fits 20000, (search (sendable, crosses, Trace-send) depth 60 fits 20000, tt))))))))))))))))))

pub Running-send : IsSend Running.the_row
Running-send = search (sendable, crosses, Trace-send, Node-send, FileDisk-send, Joiner-send) depth 60 fits 20000
