mod Tenants
