pub mod KeyEvents
