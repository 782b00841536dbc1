pub mod BusyDesk
