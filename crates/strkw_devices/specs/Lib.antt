pub mod HostDevices
